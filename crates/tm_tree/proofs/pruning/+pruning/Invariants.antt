use Rattle.std.proofs.Common.{◌≡◌, take}
use Rattle.tm_tree.specs.Pruned.{all_pruned}
use Rattle.tm_tree.proofs.pruning.+pruning.Given as goal

abbrev pub invariant-all_pruned-loop-tree : goal.invariant-all_pruned-loop-tree
invariant-all_pruned-loop-tree l = l.made ≡ all_pruned l.keep (take l.tree-index l.trees)
