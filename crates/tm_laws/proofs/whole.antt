pub mod Leaves
pub mod Words
pub mod Types
pub mod Runs
