pub mod NumberLemmas
mod RisingLemmas
pub mod LeastLemmas
