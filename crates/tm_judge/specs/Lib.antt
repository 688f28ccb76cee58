pub mod Ready
pub mod Walks
