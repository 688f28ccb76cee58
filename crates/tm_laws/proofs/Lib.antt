pub mod known
pub mod whole
pub mod fields
pub mod refusals
