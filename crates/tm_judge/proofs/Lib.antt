pub mod ReadyLemmas
pub mod ValueLemmas
