pub mod Runs
pub mod Numbers
pub mod Begins
pub mod Checked
