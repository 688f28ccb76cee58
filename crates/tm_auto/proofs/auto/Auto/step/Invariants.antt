use Rattle.std.proofs.Common.{◌≡◌, drop, []}
use Rattle.tm_auto.proofs.NextLemmas.{with_all_ends}
use Rattle.tm_auto.proofs.auto.Auto.step.Given as goal

abbrev pub invariant-loop-state : goal.invariant-loop-state
invariant-loop-state g l = with_all_ends (g.M.RefTest.test l.refs) l.symbol l.self.edges (drop l.state-index l.state-items) l.reached ≡ with_all_ends (g.M.RefTest.test l.refs) l.symbol l.self.edges l.state-items []
