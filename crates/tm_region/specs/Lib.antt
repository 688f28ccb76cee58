pub mod Table
pub mod Order
