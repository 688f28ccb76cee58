pub mod MentionLemmas
pub mod holding_laws
pub mod MeaningLemmas
pub mod TypeLemmas
pub mod fault_laws
pub mod Members
mod Worked
pub mod CopyLemmas
pub mod WrittenLemmas
pub mod MentionedLemmas
pub mod KnownLemmas
pub mod form_laws
