pub mod making
pub mod chosen
pub mod reading
pub mod checking
pub mod forms
mod Rows
