use Rattle.std.proofs.Common.{◌≡◌, ◌++◌, drop}
use Rattle.tm_base.specs.Worlds.{tables_of}
use Rattle.tm_run.specs.Report.{reference_lines}
use Rattle.tm_run.proofs.reported.report.add_reference_lines.Given as goal

abbrev pub invariant-loop-number : goal.invariant-loop-number
invariant-loop-number l =
    l.text ++ reference_lines (tables_of l.world) l.number (drop l.number l.world.refs) ≡ l.initial.text ++ reference_lines (tables_of l.world) 0 l.world.refs
