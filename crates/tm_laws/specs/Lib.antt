pub mod AnswerKinds
pub mod AnswerLaws
pub mod Laws
pub mod PlacesApart
pub mod WordLaws
pub mod SliceLaws
pub mod PartLaws
