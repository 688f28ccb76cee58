use Rattle.std.proofs.Common.{◌≤◌, ◌+◌, take}
use Rattle.tm_walk.specs.Layers.{IsNext, weights}
use Rattle.tm_walk.proofs.advance.Walk.advance.Given as goal

-- the pairs before this one are expanded
abbrev pub invariant-loop-k : goal.invariant-loop-k
invariant-loop-k g l = record {
  next : IsNext (g.M.RefTest.test l.self.refs.now) l.self.src.now l.self.dst.now (g.Q.Quantifier.skip l.self.quantifier.now) l.place l.layer l.k l.next;
  cost : l.steps ≤ l.initial.steps + weights (g.Q.Quantifier.skip l.self.quantifier.now) (take l.k l.layer);
  counted : l.initial.steps ≤ l.steps;
}
