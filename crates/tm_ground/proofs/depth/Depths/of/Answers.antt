use Rattle.std.proofs.Common.{◌+◌, ◌∙◌, refl, sym, ap, length, length-append}
use Rattle.tm_ground.specs.Limits.{depth_limit}
use Rattle.tm_ground.proofs.sizes.DepthLemmas.{tell-all, tell-more, tell-none}
use Rattle.tm_ground.proofs.depth.Depths.of.Goals as goal

pub loop-number-init : goal.loop-number-init
loop-number-init c = (ap length c.new.ensures, tell-none _ _)

pub returns-then-not-contains : goal.returns-then-not-contains
returns-then-not-contains c =
    let none = sym (rw c.as_slice.ensures at c.contains.ensures.value) ∙ c.if-not-contains.true in
    tell-all c.args.named.now c.loop-number.number c.loop-number.depths.tables c.loop-number.invariant.0 c.loop-number.invariant.1 c.in_ok-table.table c.in_ok-table.ensures _ refl none depth_limit

pub loop-number-preserved : goal.loop-number-preserved
loop-number-preserved c = (
  ap length c.in_ok-add.ensures.added ∙ length-append c.loop-number.depths.tables _ ∙ ap (λ n. n + 1) c.loop-number.invariant.0,
  tell-more c.args.named.now c.loop-number.number c.loop-number.depths.tables c.loop-number.invariant.0 c.loop-number.invariant.1 c.in_ok-table.table c.in_ok-table.ensures _ c.in_ok-add.ensures.added,
)
