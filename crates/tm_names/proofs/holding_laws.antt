-- What is listed as held is held, and which definitions hold themselves.
pub mod HeldLemmas
pub mod ThroughLemmas
pub mod RowLemmas
pub mod NewsLemmas
pub mod HoldingLemmas
pub mod OwnLemmas
pub mod CyclicLemmas
