use Rattle.std.proofs.Common.{List, [], length, Contains}
use Rattle.tm_walk.specs.declared.obligation.Obligation.{Obligation}
use Rattle.tm_walk.specs.Obligations.{AreAdded, FollowsSome, IsBetween}
use Rattle.tm_walk.proofs.inclusion.Inclusion.advance.Given as goal

-- what the obligations that are left make of the next layer so far, all make of none
abbrev pub invariant-loop-rest : goal.invariant-loop-rest
invariant-loop-rest g l = record {
  made : (after : List Obligation)
      → AreAdded (FollowsSome (g.M.RefTest.test l.self.refs.now) l.self.src.now l.self.dst.now l.place l.rest) l.next after
      → AreAdded (FollowsSome (g.M.RefTest.test l.self.refs.now) l.self.src.now l.self.dst.now l.place l.layer) [] after;
  states : (o : Obligation) → Contains l.rest o → IsBetween l.self.src.now l.self.dst.now o;
}

-- each turn takes one obligation at least
abbrev pub decreases-loop-rest : goal.decreases-loop-rest
decreases-loop-rest g l = length l.rest
