use Rattle.std.proofs.Common.{◌≡◌, ◌-◌, length}
use Rattle.tm_names.specs.Closures.{closure}
use Rattle.tm_names.proofs.faults.closure.closure.Given as goal

abbrev pub invariant-loop-through : goal.invariant-loop-through
invariant-loop-through l =
    closure l.through (length l.fn.rows.items - l.through) l.closed.items ≡ closure 0 (length l.fn.rows.items) l.fn.rows.items
