use Rattle.std.proofs.Common.{◌≡◌, ◌++◌, drop, map}
use Rattle.std.specs.List.{enumerate_from}
use Rattle.tm_names.specs.Closures.{joined_row, joined_rows}
use Rattle.tm_names.proofs.faults.closure.joined_rows.Given as goal

abbrev pub invariant-loop-place : goal.invariant-loop-place
invariant-loop-place l =
    l.joined ++ map (joined_row l.others) (enumerate_from l.place (drop l.place l.rows)) ≡ joined_rows l.fn.rows l.fn.others
