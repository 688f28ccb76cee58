pub mod Against
pub mod Digits
pub mod Matched
