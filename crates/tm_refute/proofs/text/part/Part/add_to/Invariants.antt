use Rattle.std.proofs.Common.{◌≡◌, ◌++◌}
use Rattle.tm_base.specs.Cells.{pointer_of}
use Rattle.tm_refute.proofs.text.part.Part.add_to.Given as goal

-- the cells of the first places were added
abbrev pub invariant-loop-place : goal.invariant-loop-place
invariant-loop-place l = l.word ≡ l.initial.word ++ pointer_of l.place l.id.0
