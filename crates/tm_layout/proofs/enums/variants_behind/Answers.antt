use Rattle.std.proofs.Common.{◌≤◌, ◌∷◌, [], None, arith}
use Rattle.tm_base.specs.Layout.{greatest_align, structs}
use Rattle.tm_layout.specs.Reckoned.{shape, variant_layouts_in}
use Rattle.tm_layout.proofs.ReckonLemmas.{greatest_align-some}
use Rattle.tm_layout.proofs.enums.variants_behind.Goals as goal

pub loop-fields-init : goal.loop-fields-init
loop-fields-init c =
    let all = structs (shape c.args.front ∷ []) (variant_layouts_in c.args.variants.now) in
    let h : 1 ≤ greatest_align None all = greatest_align-some None all in
    record { some = omega arith; size = omega arith; align = omega arith }
