use Rattle.tm_ground.proofs.finding.SetLemmas.{codes-next}
use Rattle.tm_ground.proofs.type_set.TypeSet.of.Goals as goal

pub loop-ty-preserved : goal.loop-ty-preserved
loop-ty-preserved c =
    let inside = rw c.as_slice-ty-items.ensures at c.loop-ty-test.true in
    let there = rw c.as_slice-ty-items.ensures at c.ty-item.is in
    codes-next c.args.types c.loop-ty.ty-index c.ty-item.result c.requires inside there c.loop-ty.keys.keys c.in_ok-of.field-0 c.loop-ty.invariant c.in_ok-of.ensures _ c.in_ok-insert.ensures.keys
