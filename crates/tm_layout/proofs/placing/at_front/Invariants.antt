use Rattle.std.proofs.Common.{◌≡◌, ◌++◌, drop}
use Rattle.tm_base.specs.Places.{at_front}
use Rattle.tm_layout.specs.Reckoned.{layouts_in}
use Rattle.tm_layout.proofs.placing.at_front.Given as goal

abbrev pub invariant-loop : goal.invariant-loop
invariant-loop l = l.found ++ at_front (layouts_in (drop l.index l.fields)) ≡ at_front (layouts_in l.fn.fields)
