-- What contracts see of a sink in memory.
use Rattle.std.specs.Prelude.{ℕ, List}

-- the bytes that were written, how many may be written in all, and how many writes failed
pub record Contents : Type 0 where
  pub written : List ℕ
  pub room : ℕ
  pub faults : ℕ
