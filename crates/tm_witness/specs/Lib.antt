pub mod Search
pub mod GoingOn
pub mod Refused
