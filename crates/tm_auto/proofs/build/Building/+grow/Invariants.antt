use Rattle.std.proofs.Common.{◌+◌, drop, take}
use Rattle.tm_auto.specs.Shapes.{nodes_of, all_nodes}
use Rattle.tm_auto.proofs.CaseLemmas.{TurnFront}
use Rattle.tm_auto.proofs.MemberLemmas.{OneFront}
use Rattle.tm_auto.proofs.TimesLemmas.{TimesFront}
use Rattle.tm_auto.proofs.build.Building.+grow.Given as goal

abbrev pub decreases-grow : goal.decreases-grow
decreases-grow l = nodes_of l.tree.now

abbrev pub decreases-grow_in_turn : goal.decreases-grow_in_turn
decreases-grow_in_turn l = 1 + all_nodes l.trees.now

abbrev pub decreases-grow_one_of : goal.decreases-grow_one_of
decreases-grow_one_of l = 1 + all_nodes l.trees.now

abbrev pub decreases-grow_times : goal.decreases-grow_times
decreases-grow_times l = 1 + nodes_of l.part.now

abbrev pub invariant-grow_in_turn-loop-at : goal.invariant-grow_in_turn-loop-at
invariant-grow_in_turn-loop-at l = TurnFront (drop l.at l.trees) l.target l.fn.self l.self l.next

abbrev pub invariant-grow_one_of-loop-tree : goal.invariant-grow_one_of-loop-tree
invariant-grow_one_of-loop-tree l = OneFront (take l.tree-index l.trees) l.target l.fn.self l.self

abbrev pub invariant-grow_times-loop-turn : goal.invariant-grow_times-loop-turn
invariant-grow_times-loop-turn l = TimesFront l.turn l.part l.target l.fn.self l.self l.next
