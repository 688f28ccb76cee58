use Rattle.std.proofs.Common.{◌≡◌, ◌++◌, drop, map}
use Rattle.std.specs.List.{enumerate_from}
use Rattle.tm_names.specs.Closures.{joined_flag, next_row}
use Rattle.tm_names.proofs.faults.closure.next_row.Given as goal

abbrev pub invariant-loop-place : goal.invariant-loop-place
invariant-loop-place l =
    l.next ++ map (joined_flag l.joins l.other) (enumerate_from l.place (drop l.place l.row)) ≡ next_row l.fn.joins l.fn.row l.fn.other
