pub mod AlikeLemmas
pub mod FitLemmas
pub mod MatchLemmas
