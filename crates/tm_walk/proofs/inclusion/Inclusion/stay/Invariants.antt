use Rattle.std.proofs.Common.{List, drop}
use Rattle.tm_walk.specs.declared.obligation.Obligation.{Obligation}
use Rattle.tm_walk.specs.Obligations.{AreAdded, Stays}
use Rattle.tm_walk.proofs.inclusion.Inclusion.stay.Given as goal

-- what the obligations that are left make of the next layer so far, all make of what it was
abbrev pub invariant-loop-obligation : goal.invariant-loop-obligation
invariant-loop-obligation g l = (after : List Obligation)
    → AreAdded (Stays l.target (drop l.obligation-index l.group)) l.next after
    → AreAdded (Stays l.target l.group) l.initial.next after
