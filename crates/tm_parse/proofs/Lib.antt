pub mod grammar
pub mod reading
pub mod limits
pub mod bounds
pub mod worked
