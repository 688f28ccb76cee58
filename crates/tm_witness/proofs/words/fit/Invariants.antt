use Rattle.std.proofs.Common.{◌≡◌}
use Rattle.tm_base.specs.Cells.{fit}
use Rattle.tm_witness.proofs.words.fit.Given as goal

abbrev pub invariant-loop-place : goal.invariant-loop-place
invariant-loop-place l = l.fitted ≡ fit l.word l.place
