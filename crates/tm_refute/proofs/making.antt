pub mod AskingLemmas
pub mod DepthLemmas
pub mod EntriesLemmas
pub mod FailingLemmas
pub mod JudgedLemmas
