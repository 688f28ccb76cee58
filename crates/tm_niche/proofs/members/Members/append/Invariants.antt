use Rattle.std.proofs.Common.{◌≡◌, ◌++◌}
use Rattle.tm_niche.proofs.members.Members.append.Given as goal

abbrev pub invariant-loop-tree : goal.invariant-loop-tree
invariant-loop-tree l = l.self ≡ l.initial.self ++ l.yielded
