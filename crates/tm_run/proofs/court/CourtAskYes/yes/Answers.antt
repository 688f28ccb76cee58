use Rattle.std.proofs.Common.{◌∙◌, sym}
use Rattle.tm_run.proofs.answers.AnswerLemmas.{answer-means-holding}
use Rattle.tm_run.proofs.court.CourtAskYes.yes.Goals as goal

pub returns-clause-answer : goal.returns-clause-answer
returns-clause-answer g c =
    let (there, back) = answer-means-holding c.args.self.now c.args.ask.now c.in_ok-answer.answer c.in_ok-answer.ensures.answer.is_true in
    (λ e. there (sym c.is_yes.ensures ∙ e), λ h. c.is_yes.ensures ∙ back h)
