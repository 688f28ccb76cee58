use Rattle.std.proofs.Common.{sym, ap, ◌∙◌, refl}
use Rattle.tm_auto.specs.Shapes.{extent_of, in_turn, one_of}
use Rattle.tm_auto.proofs.ShapeLemmas.{extent_of-Seq, extent_of-Alt, extent_of-no_turn, extent_of-turns, extent_of-range, extent_of-no_range, turn_more, turn_done, one_more, one_done}
use Rattle.tm_auto.proofs.extent.Extent.+extent.Goals as goal

pub of-returns-in-Never : goal.of-returns-in-Never
unfolding extent_of
of-returns-in-Never t c = rw c.in-Never.is refl

pub of-returns-then-low-high : goal.of-returns-then-low-high
of-returns-then-low-high t c = rw c.in-Range.is (sym (extent_of-range c.in-Range.low c.in-Range.high c.if-low-high.true))

pub of-returns-else-low-high : goal.of-returns-else-low-high
of-returns-else-low-high t c = rw c.in-Range.is (sym (extent_of-no_range c.in-Range.low c.in-Range.high c.if-low-high.false))

pub of-returns-in-Pad : goal.of-returns-in-Pad
unfolding extent_of
of-returns-in-Pad t c = rw c.in-Pad.is refl

pub of-returns-in-Ref : goal.of-returns-in-Ref
unfolding extent_of
of-returns-in-Ref t c = rw c.in-Ref.is refl

pub of-returns-in-Seq : goal.of-returns-in-Seq
of-returns-in-Seq t c = c.in_turn.ensures ∙ ap in_turn c.as_slice.ensures ∙ sym (ap extent_of c.in-Seq.is ∙ extent_of-Seq c.in-Seq.trees)

pub of-returns-in-Alt : goal.of-returns-in-Alt
of-returns-in-Alt t c = c.one_of.ensures ∙ ap one_of c.as_slice-in-Alt.ensures ∙ sym (ap extent_of c.in-Alt.is ∙ extent_of-Alt c.in-Alt.trees)

pub of-returns-then-count-eq0 : goal.of-returns-then-count-eq0
of-returns-then-count-eq0 t c = rw c.in-Repeat.is (sym (extent_of-no_turn c.in-Repeat.count c.in-Repeat.part c.if-count-eq0.true))

pub of-returns-else-count-eq0 : goal.of-returns-else-count-eq0
of-returns-else-count-eq0 t c = c.of.ensures ∙ ap extent_of c.get.ensures ∙ sym (ap extent_of c.in-Repeat.is ∙ extent_of-turns c.in-Repeat.count c.in-Repeat.part c.if-count-eq0.false)

pub of-returns-in-Private : goal.of-returns-in-Private
unfolding extent_of
of-returns-in-Private t c = rw c.in-Private.is refl

pub in_turn-loop-tree-preserved : goal.in_turn-loop-tree-preserved
in_turn-loop-tree-preserved t c = rw (c.and-whole.ensures, c.of.ensures) (turn_more c.args.trees.now c.loop-tree.tree-index c.tree-item.result c.loop-tree.whole c.loop-tree-test.true c.tree-item.is c.loop-tree.invariant)

pub in_turn-returns : goal.in_turn-returns
in_turn-returns t c = turn_done c.args.trees.now c.loop-tree.tree-index c.loop-tree.whole c.loop-tree-test.false c.loop-tree.invariant

pub one_of-loop-tree-preserved : goal.one_of-loop-tree-preserved
one_of-loop-tree-preserved t c = rw (c.or-whole.ensures, c.of.ensures) (one_more c.args.trees.now c.loop-tree.tree-index c.tree-item.result c.loop-tree.whole c.loop-tree-test.true c.tree-item.is c.loop-tree.invariant)

pub one_of-returns : goal.one_of-returns
one_of-returns t c = one_done c.args.trees.now c.loop-tree.tree-index c.loop-tree.whole c.loop-tree-test.false c.loop-tree.invariant
