pub mod forms
pub mod sizes
pub mod finding
pub mod numbers
pub mod world
mod Worked
pub mod texts
