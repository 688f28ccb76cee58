pub mod NumberLemmas
pub mod HasNumbersLemmas
pub mod StandsLemmas
pub mod StandsOnce
