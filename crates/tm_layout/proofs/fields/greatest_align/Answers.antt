use Rattle.std.proofs.Common.{◌≤◌, arith}
use Rattle.tm_base.specs.Layout.{greatest_align}
use Rattle.tm_layout.specs.Reckoned.{layouts_in}
use Rattle.tm_layout.proofs.ReckonLemmas.{greatest_align-some}
use Rattle.tm_layout.proofs.fields.greatest_align.Goals as goal

pub loop-field-init : goal.loop-field-init
loop-field-init c =
    let h : 1 ≤ greatest_align c.args.packed (layouts_in c.args.fields.now) = greatest_align-some c.args.packed (layouts_in c.args.fields.now) in
    record { some = omega arith; whole = omega arith }
