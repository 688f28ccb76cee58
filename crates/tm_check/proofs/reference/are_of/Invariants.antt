use Rattle.std.proofs.Common.{◌≡◌, drop}
use Rattle.tm_check.specs.Begins.{are_of}
use Rattle.tm_check.proofs.reference.are_of.Given as goal

abbrev pub invariant-loop-place : goal.invariant-loop-place
invariant-loop-place l = are_of l.id.0 l.place (drop l.place l.cells) ≡ are_of l.id.0 0 l.cells
