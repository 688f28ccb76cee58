use Rattle.std.proofs.Common.{◌≡◌, drop, None}
use Rattle.tm_witness.specs.Search.{least_from}
use Rattle.tm_witness.proofs.reached.least_open.Given as goal

abbrev pub invariant-loop-state : goal.invariant-loop-state
invariant-loop-state l = least_from l.auto'.edges l.least (drop l.state-index l.state-items) ≡ least_from l.auto'.edges None l.state-items
