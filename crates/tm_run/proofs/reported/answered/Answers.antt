use Rattle.std.proofs.Common.{◌≤◌, All, List, length, subst, sym}
use Rattle.tm_base.specs.declared.answer.Answer.{Answer}
use Rattle.tm_base.specs.Profiles.{pointer_size}
use Rattle.tm_report.specs.AnswerLines.{HasWholeWord}
use Rattle.tm_run.specs.Answers.{IsAnswered}
use Rattle.tm_run.proofs.answers.AnswerLemmas.{answers-whole, zip-few}
use Rattle.tm_run.proofs.reported.answered.Goals as goal

pub report-requires-clause-whole : goal.report-requires-clause-whole
report-requires-clause-whole g c =
    let world = c.args.world.now in
    subst (λ (answers : List Answer). All (HasWholeWord (pointer_size world.profile)) answers) (sym c.deref.ensures.value)
    (answers-whole world world.questions c.in_ok-answers.answers.items c.in_ok-answers.ensures)

pub report-requires-clause-few : goal.report-requires-clause-few
report-requires-clause-few g c =
    let world = c.args.world.now in
    subst (λ (answers : List Answer). length answers ≤ 256) (sym c.deref.ensures.value)
    (zip-few (IsAnswered world) world c.in_ok-answers.answers.items c.in_ok-answers.ensures)
