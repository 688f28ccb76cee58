use Rattle.std.proofs.Common.{◌≡◌, ◌++◌, drop}
use Rattle.tm_base.specs.Worlds.{tables_of}
use Rattle.tm_run.specs.Marks.{matrix_lines}
use Rattle.tm_run.proofs.reported.marks.matrix_lines.Given as goal

abbrev pub invariant-loop-number : goal.invariant-loop-number
invariant-loop-number l =
    l.text ++ matrix_lines (tables_of l.world) l.number (drop l.number l.types) (drop l.number l.lines) ≡ matrix_lines (tables_of l.world) 0 l.types l.lines
