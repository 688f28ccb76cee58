pub mod PieceLemmas
pub mod WordLemmas
pub mod NameLemmas
pub mod ApartTexts
pub mod ApartOccurring
pub mod TextLemmas
pub mod SharedTexts
