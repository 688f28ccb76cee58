use Rattle.std.proofs.Common.{◌≡◌, ◌++◌, replicate, string_bytes}
use Rattle.tm_report.specs.WordTexts.{behind_spaces, cell_text}
use Rattle.tm_report.proofs.cells.write_run.Given as goal

-- so many cells are written
abbrev pub invariant-loop-turn : goal.invariant-loop-turn
invariant-loop-turn l = string_bytes l.text ≡ string_bytes l.initial.text ++ behind_spaces (replicate l._turn (cell_text l.run.cell))
