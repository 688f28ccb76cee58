pub mod ByteLemmas
pub mod InputLemmas
pub mod RunLemmas
pub mod DoneLemmas
pub mod KeepLemmas
