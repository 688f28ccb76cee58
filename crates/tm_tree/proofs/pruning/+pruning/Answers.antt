use Rattle.std.proofs.Common.{arith, ap, subst, sym, ◌∙◌, ◌≡◌, if◌then◌else◌, IfOk}
use Rattle.std.proofs.lemmas.Grind.{common_steps}
use Rattle.tm_base.specs.declared.tree.Tree.{Never}
use Rattle.tm_niche.specs.Forms.{joined, one_of, repeated}
use Rattle.tm_tree.specs.Pruned.{all_pruned, pruned}
use Rattle.tm_tree.proofs.PruneLemmas.{all_pruned-next, pruned-Alt, pruned-Never, pruned-Pad, pruned-Private, pruned-Range, pruned-Ref, pruned-Repeat, pruned-Seq}
use Rattle.tm_tree.proofs.pruning.+pruning.Goals as goal

pub pruned-returns-in-Never : goal.pruned-returns-in-Never
pruned-returns-in-Never t c = grind (arith, pruned-Never)

pub pruned-returns-in-Range : goal.pruned-returns-in-Range
pruned-returns-in-Range t c = grind (arith, pruned-Range)

pub pruned-returns-in-Pad : goal.pruned-returns-in-Pad
pruned-returns-in-Pad t c = grind (arith, pruned-Pad)

pub pruned-returns-in-Ref : goal.pruned-returns-in-Ref
pruned-returns-in-Ref t c = grind (arith, pruned-Ref)

pub pruned-returns-in_ok-all_pruned-in-Seq : goal.pruned-returns-in_ok-all_pruned-in-Seq
pruned-returns-in_ok-all_pruned-in-Seq t c =
    subst (λ x. IfOk c.in_turn.result (λ made. made ≡ x))
    (ap joined (c.in_ok-all_pruned-in-Seq.ensures ∙ ap (all_pruned c.args.keep) c.as_slice.ensures) ∙ sym (pruned-Seq c.args.keep c.in-Seq.trees) ∙ ap (pruned c.args.keep) (sym c.in-Seq.is))
    c.in_turn.ensures

pub pruned-returns-in_ok-all_pruned-in-Alt : goal.pruned-returns-in_ok-all_pruned-in-Alt
pruned-returns-in_ok-all_pruned-in-Alt t c =
    subst (λ x. IfOk c.one_of.result (λ made. made ≡ x))
    (ap one_of (c.in_ok-all_pruned-in-Alt.ensures ∙ ap (all_pruned c.args.keep) c.as_slice-in-Alt.ensures) ∙ sym (pruned-Alt c.args.keep c.in-Alt.trees) ∙ ap (pruned c.args.keep) (sym c.in-Alt.is))
    c.one_of.ensures

pub pruned-returns-in_ok-repeated-in-Repeat : goal.pruned-returns-in_ok-repeated-in-Repeat
pruned-returns-in_ok-repeated-in-Repeat t c =
    subst (λ x. IfOk c.in_turn-in-Repeat.result (λ made. made ≡ x))
    (ap joined (c.in_ok-repeated-in-Repeat.ensures ∙ ap (repeated c.in-Repeat.count) (c.in_ok-part-in-Repeat.ensures ∙ ap (pruned c.args.keep) c.get.ensures))
    ∙ sym (pruned-Repeat c.args.keep c.in-Repeat.count c.in-Repeat.part) ∙ ap (pruned c.args.keep) (sym c.in-Repeat.is))
    c.in_turn-in-Repeat.ensures

pub pruned-returns-then-keep : goal.pruned-returns-then-keep
pruned-returns-then-keep t c =
    subst (λ x. IfOk c.pruned-then-keep.result (λ made. made ≡ x))
    (ap (pruned c.args.keep) c.get-then-keep.ensures
    ∙ sym (pruned-Private c.args.keep c.in-Private.part ∙ ap (λ b. if b then pruned c.args.keep c.in-Private.part else Never) c.if-keep.true) ∙ ap (pruned c.args.keep) (sym c.in-Private.is))
    c.pruned-then-keep.ensures

pub pruned-returns-else-keep : goal.pruned-returns-else-keep
pruned-returns-else-keep t c =
    sym (pruned-Private c.args.keep c.in-Private.part ∙ ap (λ b. if b then pruned c.args.keep c.in-Private.part else Never) c.if-keep.false) ∙ ap (pruned c.args.keep) (sym c.in-Private.is)

pub all_pruned-loop-tree-preserved : goal.all_pruned-loop-tree-preserved
all_pruned-loop-tree-preserved t c = grind (arith, common_steps, all_pruned-next)
