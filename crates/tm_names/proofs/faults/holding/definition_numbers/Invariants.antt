use Rattle.std.proofs.Common.{◌≡◌, ◌++◌, drop}
use Rattle.std.specs.List.{filter_map}
use Rattle.tm_names.specs.Held.{definition_number}
use Rattle.tm_names.proofs.faults.holding.definition_numbers.Given as goal

abbrev pub invariant-loop-meaning : goal.invariant-loop-meaning
invariant-loop-meaning l = l.numbers ++ filter_map definition_number (drop l.meaning-index l.held) ≡ filter_map definition_number l.fn.held
