use Rattle.std.proofs.Common.{◌+◌, ◌-◌, ◌≤◌}
use Rattle.tm_auto.specs.Automata.{HasOneStateALayer}
use Rattle.tm_walk.specs.Sought.{HaltsWhereDead}
use Rattle.tm_walk.proofs.RunLemmas.{IsWalked}
use Rattle.tm_walk.proofs.advance.Walk.go_on.Given as goal

abbrev pub invariant-places : goal.invariant-places
invariant-places g l = record {
  walked : IsWalked (g.M.RefTest.test l.self.refs.now) l.self.src.now l.self.dst.now (g.Q.Quantifier.stop l.self.quantifier.now) (g.Q.Quantifier.skip l.self.quantifier.now) l.front.layer l.front.history l.place;
  cost : HasOneStateALayer l.self.src.now → HasOneStateALayer l.self.dst.now → HaltsWhereDead (g.Q.Quantifier.stop l.self.quantifier.now) (g.Q.Quantifier.skip l.self.quantifier.now) → l.steps ≤ l.initial.steps + l.place;
  counted : l.initial.steps ≤ l.steps;
}

abbrev pub decreases-places : goal.decreases-places
decreases-places g l = l.size - l.place
