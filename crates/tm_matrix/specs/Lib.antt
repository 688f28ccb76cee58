pub mod Known
pub mod Matrix
