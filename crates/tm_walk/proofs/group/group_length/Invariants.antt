use Rattle.std.proofs.Common.{◌≡◌, ◌<◌, ◌≤◌, ◌-◌, length, take, Contains}
use Rattle.tm_walk.specs.declared.obligation.Obligation.{Obligation}
use Rattle.tm_walk.proofs.group.group_length.Given as goal

-- each so far is of the first one's set
abbrev pub invariant-loop-end : goal.invariant-loop-end
invariant-loop-end l = record {
  some : 0 < l.end;
  most : l.end ≤ length l.obligations;
  one : (o : Obligation) → Contains (take l.end l.obligations) o → o.target ≡ l.target;
}

abbrev pub decreases-loop-end : goal.decreases-loop-end
decreases-loop-end l = length l.obligations - l.end
