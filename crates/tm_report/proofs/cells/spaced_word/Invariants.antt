use Rattle.std.proofs.Common.{◌≡◌, ◌≤◌, ◌++◌, None, drop, take, string_bytes}
use Rattle.std.specs.List.{All}
use Rattle.tm_report.specs.Runs.{counted, unwritten}
use Rattle.tm_report.specs.WordTexts.{IsCell, pieces}
use Rattle.tm_report.proofs.cells.spaced_word.Given as goal

-- what is written, and what the run and the other cells give, is the whole
abbrev pub invariant-loop-cell : goal.invariant-loop-cell
invariant-loop-cell l = record {
  written : string_bytes l.text ++ unwritten l.pending (pieces (drop l.cell-index l.cells)) ≡ unwritten None (pieces l.cells);
  few : counted l.pending ≤ l.cell-index;
  numbers : All IsCell (take l.cell-index l.cells);
}
