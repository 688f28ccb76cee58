use Rattle.std.proofs.Common.{◌≡◌, drop}
use Rattle.tm_names.specs.Held.{is_number_among}
use Rattle.tm_names.proofs.faults.holding.is_number_among.Given as goal

abbrev pub invariant-loop-other : goal.invariant-loop-other
invariant-loop-other l =
    is_number_among (drop l.other-index l.numbers) l.number ≡ is_number_among l.fn.numbers l.fn.number
