use Rattle.std.proofs.Common.{length, ◌∙◌, ◌++◌, ◌∷◌, [], ap, sym}
use Rattle.std.proofs.lemmas.Bool.{ltb-false, ltb-true}
use Rattle.tm_base.specs.declared.cell.Cell.{Cell}
use Rattle.tm_base.specs.Cells.{Word, fit}
use Rattle.tm_validate.specs.Against.{bytes_of}
use Rattle.tm_validate.proofs.FitLemmas.{next-byte, next-uninit}
use Rattle.tm_validate.proofs.matching.fitted.Goals as goal
use Rattle.tm_validate.proofs.matching.fitted.Goals.{in-Some, in-None}

pub loop-place-preserved : goal.loop-place-preserved
loop-place-preserved c =
    let bytes = c.args.bytes.now in
    let place = c.loop-place.place in
    let pushed = c.in_ok-push.ensures.items in
    elim c.match-get.branch [
      | in-Some w ↦
          pushed ∙ ap (λ (v : Word). v ++ c.match-get.cell ∷ []) c.loop-place.invariant
          ∙ ap (λ (x : Cell). fit (bytes_of bytes) place ++ x ∷ []) w.cell-is ∙ sym (next-byte bytes place w.in-Some.byte.now (ltb-true place (length bytes) (sym w.in-Some.ensures.lookup.0)) w.in-Some.ensures.lookup.1)
      | in-None w ↦
          pushed ∙ ap (λ (v : Word). v ++ c.match-get.cell ∷ []) c.loop-place.invariant
          ∙ ap (λ (x : Cell). fit (bytes_of bytes) place ++ x ∷ []) w.cell-is ∙ sym (next-uninit bytes place (ltb-false place (length bytes) (sym w.in-None.ensures.lookup.0)))
    ]
