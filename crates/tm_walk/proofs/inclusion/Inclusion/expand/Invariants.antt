use Rattle.std.proofs.Common.{List, drop}
use Rattle.tm_auto.specs.Sets.{next}
use Rattle.tm_walk.specs.declared.obligation.Obligation.{Obligation}
use Rattle.tm_walk.specs.Obligations.{AreAdded, FollowsGroup}
use Rattle.tm_walk.proofs.AddedLemmas.{OfSome}
use Rattle.tm_walk.proofs.inclusion.Inclusion.expand.Given as goal

-- what the symbols that are left make of the next layer so far, all make of what it was
abbrev pub invariant-loop-symbol : goal.invariant-loop-symbol
invariant-loop-symbol g l = (after : List Obligation)
    → AreAdded (OfSome (λ x. FollowsGroup l.self.src.now x (next (g.M.RefTest.test l.self.refs.now) l.self.dst.now.edges l.target x) l.group) (drop l.symbol-index l.symbol-items)) l.next after
    → AreAdded (OfSome (λ x. FollowsGroup l.self.src.now x (next (g.M.RefTest.test l.self.refs.now) l.self.dst.now.edges l.target x) l.group) l.symbol-items) l.initial.next after
