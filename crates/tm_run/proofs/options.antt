pub mod WordLemmas
pub mod ClapFacts
pub mod ClapWalk
pub mod ClapReads
