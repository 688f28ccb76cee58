-- What contracts see of devices that fail at listed calls, and move some bytes a call at most.
use Rattle.std.specs.Prelude.{ℕ, List}
use Rattle.tm_io.specs.Calls.{Calls}

-- a source: the bytes that are left, how many a call gives at most, the calls, and how many failed
pub record Left : Type 0 where
  pub left : List ℕ
  pub most : ℕ
  pub calls : Calls
  pub faults : ℕ

-- a sink: the bytes that were written, how many may be written in all, how many a call takes at most, the
-- calls, and how many failed
pub record Written : Type 0 where
  pub written : List ℕ
  pub room : ℕ
  pub most : ℕ
  pub calls : Calls
  pub faults : ℕ
