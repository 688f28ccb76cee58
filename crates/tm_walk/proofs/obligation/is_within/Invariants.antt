use Rattle.std.proofs.Common.{◌≡◌, ◌≤◌, drop, length}
use Rattle.tm_walk.proofs.WithinLemmas.{runs_in}
use Rattle.tm_walk.proofs.obligation.is_within.Given as goal

-- what is left to be found is to be found among what is left
abbrev pub invariant-loop-state : goal.invariant-loop-state
invariant-loop-state l = record {
  most : l.found ≤ length l.part;
  same : runs_in (drop l.found l.part) (drop l.state-index l.state-items) ≡ runs_in l.part l.state-items;
}
