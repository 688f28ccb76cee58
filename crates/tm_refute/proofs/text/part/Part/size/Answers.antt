use Rattle.std.proofs.Common.{◌∙◌, ap, sym, length}
use Rattle.std.proofs.lemmas.List.FromFn.{length-map-range_with_len}
use Rattle.tm_base.specs.declared.cell.Cell.TheVariants.{Ptr}
use Rattle.tm_refute.specs.Runs.{as_part}
use Rattle.tm_refute.specs.WordForms.{part_cells}
use Rattle.tm_refute.specs.declared.text.part.Part.{Part}
use Rattle.tm_refute.proofs.text.part.Part.size.Goals as goal

pub returns-in-Reference : goal.returns-in-Reference
returns-in-Reference c =
    let id = c.in-Reference.field-0 in
    sym (ap (λ (p : Part). length (part_cells c.args.pointer (as_part p))) c.in-Reference.is
    ∙ length-map-range_with_len (λ k. Ptr (record { 0 = id.0 }) k) 0 c.args.pointer)
