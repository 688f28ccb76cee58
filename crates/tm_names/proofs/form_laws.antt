-- What is resolved from a file without faults is in form.
pub mod TypeFormLemmas
pub mod ReprFormLemmas
pub mod ValueFormLemmas
pub mod DefFormLemmas
pub mod InFormLemmas
pub mod TokenNames
pub mod ApartLemmas
pub mod NarrowLemmas
pub mod PlacedLemmas
