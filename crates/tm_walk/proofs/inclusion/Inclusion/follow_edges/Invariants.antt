use Rattle.std.proofs.Common.{List, drop}
use Rattle.tm_walk.specs.declared.obligation.Obligation.{Obligation}
use Rattle.tm_walk.specs.Obligations.{AreAdded, FollowsEdge}
use Rattle.tm_walk.proofs.AddedLemmas.{OfSome}
use Rattle.tm_walk.proofs.inclusion.Inclusion.follow_edges.Given as goal

-- what the edges that are left make of the next layer so far, all make of what it was
abbrev pub invariant-loop-edge : goal.invariant-loop-edge
invariant-loop-edge g l = (after : List Obligation)
    → AreAdded (OfSome (FollowsEdge l.symbol l.target) (drop l.edge-index l.edge-items)) l.next after
    → AreAdded (OfSome (FollowsEdge l.symbol l.target) l.edge-items) l.initial.next after
