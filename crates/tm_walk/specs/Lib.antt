pub mod Sought
pub mod Meanings
pub mod Refusals
pub mod Layers
pub mod Numbers
pub mod Ways
pub mod Words
pub mod Obligations
