use Rattle.std.proofs.Common.{◌≡◌, ◌+◌, ◌++◌, drop}
use Rattle.tm_base.specs.Worlds.{tables_of}
use Rattle.tm_run.specs.Matches.{match_lines}
use Rattle.tm_run.proofs.reported.match_lines.match_lines.Given as goal

abbrev pub invariant-loop-place : goal.invariant-loop-place
invariant-loop-place l =
    l.text ++ match_lines (tables_of l.world) (l.place + 1) (drop l.place l.matches) ≡ match_lines (tables_of l.world) 1 l.matches
