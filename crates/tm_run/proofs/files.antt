pub mod TokenLemmas
pub mod ClosingLemmas
pub mod FaultLemmas
pub mod AskingLemmas
pub mod DecideLemmas
