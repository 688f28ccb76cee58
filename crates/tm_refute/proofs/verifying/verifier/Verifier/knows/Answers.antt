use Rattle.std.proofs.Common.{ℕ, refl, subst, arith}
use Rattle.std.specs.List.{All}
use Rattle.std.proofs.lemmas.List.{take_all}
use Rattle.std.proofs.lemmas.List.Elements.{All-more}
use Rattle.tm_base.specs.Cells.{Word}
use Rattle.tm_refute.specs.Refutes.{IsKnown}
use Rattle.tm_refute.proofs.verifying.verifier.Verifier.knows.Goals as goal

pub loop-cell-init : goal.loop-cell-init
loop-cell-init c = λ k d below. absurd (omega (arith, below))

pub loop-cell-preserved : goal.loop-cell-preserved
loop-cell-preserved c =
    All-more (IsKnown c.len-count.result) c.args.word.now c.loop-cell.cell-index _ c.loop-cell-test.true c.loop-cell.invariant (c.is_known.ensures.0 c.if-not-is_known.false)

pub returns : goal.returns
returns c =
    let all = subst (λ (w : Word). All (IsKnown c.len-count.result) w) (take_all c.loop-cell.cell-index c.args.word.now c.loop-cell-test.false) c.loop-cell.invariant in
    (λ h. subst (λ (n : ℕ). All (IsKnown n) c.args.word.now) c.len-count.ensures all, λ h. refl)
