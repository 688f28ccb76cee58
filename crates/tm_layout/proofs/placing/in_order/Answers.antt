use Rattle.std.proofs.Common.{◌+◌, ◌++◌, ap, ◌∙◌, drop, map}
use Rattle.tm_base.specs.Layout.{places}
use Rattle.tm_layout.specs.Capped.{capped}
use Rattle.tm_layout.specs.Reckoned.{layouts_in, shape}
use Rattle.tm_layout.proofs.PlaceLemmas.{in_order-next}
use Rattle.tm_layout.proofs.placing.in_order.Goals as goal

pub loop-field-preserved : goal.loop-field-preserved
loop-field-preserved c =
    ap (λ ps. ps ++ map (λ place. capped (c.args.begin + place)) (places c.args.packed c.saturating_add-end.result (layouts_in (drop (c.loop-field.field-index + 1) c.args.fields.now)))) c.in_ok-add.ensures.added
    ∙ in_order-next c.args.packed c.args.begin c.args.fields.now c.loop-field.field-index c.loop-field.end c.place_at-place.result c.saturating_add-end.result c.saturating_add.result c.loop-field.found _
    (shape c.layout_in-layout.result) _ c.loop-field-test.true c.layout_in-layout.ensures c.place_at-place.ensures c.saturating_add.ensures c.saturating_add-end.ensures c.loop-field.invariant
