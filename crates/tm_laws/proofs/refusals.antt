pub mod StopLemmas
pub mod Formed
pub mod Moves
pub mod Rows
pub mod Swaps
pub mod Worlds
pub mod RefusedLemmas
