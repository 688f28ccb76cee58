use Rattle.std.proofs.Common.{List, drop}
use Rattle.tm_walk.specs.declared.obligation.Obligation.{Obligation}
use Rattle.tm_walk.specs.Obligations.{AreAdded, FollowsGroup}
use Rattle.tm_walk.proofs.inclusion.Inclusion.follow.Given as goal

-- what the obligations that are left make of the next layer so far, all make of what it was
abbrev pub invariant-loop-obligation : goal.invariant-loop-obligation
invariant-loop-obligation g l = (after : List Obligation)
    → AreAdded (FollowsGroup l.self.src.now l.symbol l.target (drop l.obligation-index l.group)) l.next after
    → AreAdded (FollowsGroup l.self.src.now l.symbol l.target l.group) l.initial.next after
