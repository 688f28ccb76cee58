use Rattle.std.proofs.Common.{◌≡◌, map}
use Rattle.std.specs.List.{range_with_len}
use Rattle.tm_names.specs.Held.{is_number_among}
use Rattle.tm_names.proofs.faults.holding.flags.Given as goal

abbrev pub invariant-loop-number : goal.invariant-loop-number
invariant-loop-number l = l.row ≡ map (is_number_among l.fn.numbers) (range_with_len 0 l.number)
