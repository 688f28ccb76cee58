pub mod OrderLemmas
pub mod SortedOnce
pub mod RowLemmas
pub mod RowsApart
pub mod BelongsLemmas
pub mod OneWorldLemmas
