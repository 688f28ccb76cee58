use Rattle.std.proofs.Common.{◌≡◌, ◌++◌, drop}
use Rattle.std.specs.List.{flat_map}
use Rattle.tm_run.specs.Marks.{mark_text}
use Rattle.tm_run.proofs.reported.marks.marks_text.Given as goal

abbrev pub invariant-loop-mark : goal.invariant-loop-mark
invariant-loop-mark l = l.text ++ flat_map mark_text (drop l.mark-index l.marks) ≡ flat_map mark_text l.fn.marks
