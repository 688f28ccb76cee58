use Rattle.std.proofs.Common.{◌+◌, ◌∙◌, arith, ap, rules, subst, sym}
use Rattle.std.proofs.lemmas.List.Sorted.{answers_always}
use Rattle.tm_base.specs.Worlds.{tables_of}
use Rattle.tm_refute.proofs.making.FailingLemmas.{AreListed, failing-sorted, listed-more, listed-skip}
use Rattle.tm_refute.proofs.refuting.failing.pairs_in_order.Goals as goal
use Rattle.tm_refute.proofs.refuting.failing.pairs_in_order.Goals.{in-Some+in_ok-push, in_default}

pub loop-target-preserved : goal.loop-target-preserved
loop-target-preserved c =
    let compat = c.args.compat.now in
    let count = c.len-count.result in
    let s = c.loop-source.source in
    let u = c.loop-target.target in
    let pairs = c.loop-target.pairs.items in
    elim c.match-depth.branch [
      | in-Some+in_ok-push w ↦
          subst (AreListed compat count s (u + 1)) (sym (ap (λ ps. ps.items) w.pairs-is ∙ w.in_ok-push.ensures.items))
          (listed-more compat count s u pairs c.loop-target.invariant w.in-Some.depth (sym c.depth.ensures.is ∙ w.in-Some.is))
      | in_default w ↦
          subst (AreListed compat count s (u + 1)) (sym (ap (λ ps. ps.items) w.pairs-is))
          (listed-skip compat count s u pairs c.loop-target.invariant (sym c.depth.ensures.is ∙ w.in_default.is))
    ]

pub returns : goal.returns
returns c =
    failing-sorted (tables_of c.args.world.now) c.args.compat.now c.len-count.result c.loop-source.source 0 c.loop-source.pairs.items _
    (omega (arith, c.len-count.ensures)) (omega (arith, c.loop-source-test.false)) c.loop-source.invariant
    c.in_ok-sort_by_key.ensures.permutation
    (c.in_ok-sort_by_key.ensures.sorted (λ p. record { 0 = p.depth }) (answers_always _ _ _ (λ f a r g h. search rules)))
    (c.in_ok-sort_by_key.ensures.stable (λ p. record { 0 = p.depth }) (answers_always _ _ _ (λ f a r g h. search rules)))
