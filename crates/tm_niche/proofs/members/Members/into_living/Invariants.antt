use Rattle.std.proofs.Common.{◌≡◌}
use Rattle.tm_niche.specs.Forms.{living}
use Rattle.tm_niche.proofs.members.Members.into_living.Given as goal

abbrev pub invariant-loop-tree : goal.invariant-loop-tree
invariant-loop-tree l = l.living ≡ living l.yielded
