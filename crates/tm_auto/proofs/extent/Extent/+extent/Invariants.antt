use Rattle.std.proofs.Common.{◌≡◌, drop}
use Rattle.tm_auto.specs.Shapes.{in_turn, one_of, both_extents, either_extent}
use Rattle.tm_auto.proofs.extent.Extent.+extent.Given as goal

abbrev pub invariant-in_turn-loop-tree : goal.invariant-in_turn-loop-tree
invariant-in_turn-loop-tree l = both_extents l.whole (in_turn (drop l.tree-index l.trees)) ≡ in_turn l.trees

abbrev pub invariant-one_of-loop-tree : goal.invariant-one_of-loop-tree
invariant-one_of-loop-tree l = either_extent l.whole (one_of (drop l.tree-index l.trees)) ≡ one_of l.trees
