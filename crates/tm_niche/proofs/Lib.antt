pub mod WordLemmas
pub mod FormLemmas
pub mod MemberLemmas
pub mod NumberLemmas
pub mod CharLemmas
pub mod TagLemmas
pub mod NonzeroLemmas
