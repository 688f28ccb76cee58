pub mod HeaderLemmas
pub mod LineLemmas
pub mod PieceLemmas
pub mod RunLemmas
pub mod WordLemmas
pub mod TextLemmas
pub mod ReadBackLemmas
