pub mod Worked
pub mod WorkedLimits
pub mod WorkedBounds
