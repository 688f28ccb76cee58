use Rattle.std.proofs.Common.{◌≡◌, drop}
use Rattle.tm_auto.specs.Sets.{with_ends}
use Rattle.tm_auto.proofs.auto.follow.Given as goal

abbrev pub invariant-loop-edge : goal.invariant-loop-edge
invariant-loop-edge g l = with_ends (g.M.RefTest.test l.refs) l.symbol (drop l.edge-index l.edges) l.reached ≡ with_ends (g.M.RefTest.test l.refs) l.symbol l.edges l.initial.reached
