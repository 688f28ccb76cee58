pub mod files
pub mod answers
pub mod runs
pub mod options
mod Worked
