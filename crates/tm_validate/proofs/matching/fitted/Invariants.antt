use Rattle.std.proofs.Common.{◌≡◌}
use Rattle.tm_base.specs.Cells.{fit}
use Rattle.tm_validate.specs.Against.{bytes_of}
use Rattle.tm_validate.proofs.matching.fitted.Given as goal

-- so far it is what as many bytes hold
abbrev pub invariant-loop-place : goal.invariant-loop-place
invariant-loop-place l = l.cells.items ≡ fit (bytes_of l.bytes) l.place
