use Rattle.std.proofs.Common.{sym, ◌∙◌, subst}
use Rattle.std.proofs.lemmas.Bool.{both_ways}
use Rattle.tm_base.specs.Answers.{AreJudged}
use Rattle.tm_base.specs.Asked.{HoldsOf}
use Rattle.tm_matrix.specs.Matrix.{question}
use Rattle.tm_matrix.proofs.marks.mark_of.Goals as goal
use Rattle.tm_matrix.proofs.marks.mark_of.Goals.{then-src, else-src}

pub returns-then-branch-clause-mark : goal.returns-then-branch-clause-mark
returns-then-branch-clause-mark g c =
    let tables = g.J.AskYes.told c.args.judge.now in
    let holds : HoldsOf tables (question c.args.src.now.ground c.args.dst.now.ground) =
    subst (λ x. HoldsOf tables (question x c.args.dst.now.ground)) c.in_ok-copy.ensures
    (subst (λ y. HoldsOf tables (question c.in_ok-copy.field-0 y)) c.in_ok-copy-2.ensures (c.in_ok-yes.ensures.answer.0 c.if-branch.true))
    in
    (holds.judged, holds.casts)

pub returns-clause-mark : goal.returns-clause-mark
returns-clause-mark g c =
    let tables = g.J.AskYes.told c.args.judge.now in
    let judged : AreJudged tables (question c.args.src.now.ground c.args.dst.now.ground) =
    elim c.if-src.branch [
      | then-src w ↦ record { source_judged = c.requires.source.judged.0 w.if-src.true; target_judged = c.requires.target.judged.0 (sym w.value-is ∙ c.if-not-dst.false) }
      | else-src w ↦ absurd (both_ways _ (w.value-is ∙ w.if-src.false) c.if-not-dst.false)
    ]
    in (
      judged,
      λ casts.
          let holds : HoldsOf tables (question c.args.src.now.ground c.args.dst.now.ground) = record { judged = judged; casts = casts } in
          both_ways _ c.if-branch.false
          (c.in_ok-yes.ensures.answer.1
          (subst (λ y. HoldsOf tables (question c.in_ok-copy.field-0 y)) (sym c.in_ok-copy-2.ensures)
          (subst (λ x. HoldsOf tables (question x c.args.dst.now.ground)) (sym c.in_ok-copy.ensures) holds))),
    )
