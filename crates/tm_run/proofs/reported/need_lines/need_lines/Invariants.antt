use Rattle.std.proofs.Common.{◌≡◌, ◌+◌, ◌++◌, drop}
use Rattle.tm_base.specs.Worlds.{tables_of}
use Rattle.tm_run.specs.Needs.{need_lines}
use Rattle.tm_run.proofs.reported.need_lines.need_lines.Given as goal

abbrev pub invariant-loop-place : goal.invariant-loop-place
invariant-loop-place l =
    l.text ++ need_lines (tables_of l.world) (l.place + 1) (drop l.place l.needs) ≡ need_lines (tables_of l.world) 1 l.needs
