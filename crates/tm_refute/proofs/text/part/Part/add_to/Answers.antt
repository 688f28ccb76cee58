use Rattle.std.proofs.Common.{◌∙◌, ap, sym, ◌++◌, ◌∷◌, [], append_assoc, arith}
use Rattle.std.proofs.lemmas.List.FromFn.{map-range_with_len_more}
use Rattle.tm_base.specs.Cells.{Word, pointer_of}
use Rattle.tm_base.specs.declared.cell.Cell.TheVariants.{Ptr}
use Rattle.tm_refute.proofs.text.part.Part.add_to.Goals as goal

pub loop-place-preserved : goal.loop-place-preserved
loop-place-preserved c =
    let id = c.in-Reference.id in
    let place = c.loop-place.place in
    c.in_ok-add-in-Reference.ensures.added
    ∙ ap (λ (w : Word). w ++ Ptr id place ∷ []) c.loop-place.invariant
    ∙ append_assoc c.args.word.now (pointer_of place id.0) (Ptr id place ∷ [])
    ∙ ap (λ (w : Word). c.args.word.now ++ w) (sym (map-range_with_len_more (λ k. Ptr (record { 0 = id.0 }) k) 0 place place (omega arith)))
