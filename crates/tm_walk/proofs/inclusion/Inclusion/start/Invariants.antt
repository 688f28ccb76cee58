use Rattle.std.proofs.Common.{List, [], drop}
use Rattle.tm_walk.specs.declared.obligation.Obligation.{Obligation}
use Rattle.tm_walk.specs.Obligations.{AreAdded}
use Rattle.tm_walk.proofs.AddedLemmas.{OfSome}
use Rattle.tm_walk.proofs.FollowLemmas.{IsFirstOf}
use Rattle.tm_walk.proofs.inclusion.Inclusion.start.Given as goal

-- what the starts that are left make of the layer so far, all make of none
abbrev pub invariant-loop-state : goal.invariant-loop-state
invariant-loop-state g l = (after : List Obligation)
    → AreAdded (OfSome (IsFirstOf l.self.dst.now) (drop l.state-index l.state-items)) l.layer after
    → AreAdded (OfSome (IsFirstOf l.self.dst.now) l.state-items) [] after
