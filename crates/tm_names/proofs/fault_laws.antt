-- The faults that are listed are those that stand, and the earliest is the first.
pub mod LeastLemmas
pub mod LeastLaws
pub mod PartLemmas
pub mod StandingLemmas
pub mod ListedLemmas
pub mod PlaceLemmas
pub mod ValueLemmas
pub mod DiscriminantLemmas
pub mod FileLemmas
pub mod FirstLemmas
