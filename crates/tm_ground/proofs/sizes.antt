pub mod SizeLemmas
pub mod NodeLemmas
pub mod SmallLemmas
pub mod EndsLemmas
pub mod TableLemmas
pub mod DepthLemmas
pub mod DeepLemmas
pub mod ShallowForm
