use Rattle.std.proofs.Common.{◌≡◌, drop}
use Rattle.tm_witness.specs.Search.{some_takes_bytes}
use Rattle.tm_witness.proofs.reached.goes_on_by_byte.Given as goal

abbrev pub invariant-loop-state : goal.invariant-loop-state
invariant-loop-state l = some_takes_bytes l.auto'.edges (drop l.state-index l.state-items) ≡ some_takes_bytes l.auto'.edges l.state-items
