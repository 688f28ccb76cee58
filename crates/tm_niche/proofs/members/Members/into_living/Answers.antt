use Rattle.std.proofs.Common.{arith}
use Rattle.tm_niche.proofs.MemberLemmas.{living-more, living-same}
use Rattle.tm_niche.proofs.members.Members.into_living.Goals as goal

pub loop-tree-preserved-in-Continue-1 : goal.loop-tree-preserved-in-Continue-1
loop-tree-preserved-in-Continue-1 c = grind (arith, living-more)

pub loop-tree-preserved : goal.loop-tree-preserved
loop-tree-preserved c = grind (arith, living-same)
