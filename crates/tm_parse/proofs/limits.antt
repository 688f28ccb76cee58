pub mod Weights
pub mod LimitNumbers
pub mod LimitSteps
pub mod LimitLemmas
pub mod Counters
pub mod Least
pub mod Without
pub mod DefinitionMarks
