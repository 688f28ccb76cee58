pub mod Draws
pub mod Written
pub mod Generated
