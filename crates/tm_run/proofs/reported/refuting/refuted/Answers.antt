use Rattle.std.proofs.Common.{◌≡◌, ◌∙◌, ap, refl, inl, inr, subst, sym}
use Rattle.tm_base.specs.Answers.{IsAnswer}
use Rattle.tm_base.specs.Profiles.{pointer_size}
use Rattle.tm_base.specs.Tables.{Tables}
use Rattle.tm_base.specs.Worlds.{IsTypeOver, tables_of}
use Rattle.tm_refute.specs.Chosen.{IsRefutable, IsRefutationOf}
use Rattle.tm_run.specs.Examined.{IsRefutationStop, stop_of_refuting}
use Rattle.tm_run.specs.Report.{status_when}
use Rattle.tm_run.proofs.answers.AnswerLemmas.{answer-whole}
use Rattle.tm_run.proofs.files.FaultLemmas.{passed_on}
use Rattle.tm_run.proofs.answers.RefuteLemmas.{chosen-writable, question-over, refuting-stops}
use Rattle.tm_run.proofs.reported.refuting.refuted.Goals as goal

pub refutation-requires-clause-source : goal.refutation-requires-clause-source
refutation-requires-clause-source g c =
    let ask = c.question-ask.result.now in
    subst (λ (t : Tables). IsTypeOver t ask.src) (sym c.requires.court) (question-over c.args.world.now c.args.number ask c.question-ask.ensures).0

pub refutation-requires-clause-target : goal.refutation-requires-clause-target
refutation-requires-clause-target g c =
    let ask = c.question-ask.result.now in
    subst (λ (t : Tables). IsTypeOver t ask.dst) (sym c.requires.court) (question-over c.args.world.now c.args.number ask c.question-ask.ensures).1

pub returns-in_err-x-clause-stop : goal.returns-in_err-x-clause-stop
returns-in_err-x-clause-stop g c =
    let world = c.args.world.now in
    let err = c.in_err-x.field-0.0 in
    passed_on (IsRefutationStop c.args.number world) c.from_residual.result (stop_of_refuting err) c.from_residual.ensures.1
    (refuting-stops world c.args.number c.question-ask.result.now c.question-ask.ensures err (rw c.requires.court at c.in_err-x.ensures.long))

pub shown-requires-clause-writable : goal.shown-requires-clause-writable
shown-requires-clause-writable g c =
    let world = c.args.world.now in (
      pointer_size world.profile,
      chosen-writable world c.args.number c.question-ask.result.now c.question-ask.ensures c.in-Some.x c.refutations_of_questions_hold.ensures
          (rw (c.in-Some.is, c.requires.court) at c.in_ok-x.ensures.some) (rw c.in-Some.is at c.in_ok-x.ensures.short),
    )

pub answer-requires-clause-source : goal.answer-requires-clause-source
answer-requires-clause-source g c =
    let ask = c.question-ask.result.now in
    subst (λ (t : Tables). IsTypeOver t ask.src) (sym (c.in_ok-x.ensures.world ∙ c.requires.court)) (question-over c.args.world.now c.args.number ask c.question-ask.ensures).0

pub answer-requires-clause-target : goal.answer-requires-clause-target
answer-requires-clause-target g c =
    let ask = c.question-ask.result.now in
    subst (λ (t : Tables). IsTypeOver t ask.dst) (sym (c.in_ok-x.ensures.world ∙ c.requires.court)) (question-over c.args.world.now c.args.number ask c.question-ask.ensures).1

pub line-requires : goal.line-requires
line-requires g c =
    let tables = tables_of c.args.world.now in
    let ask = c.question-ask.result.now in
    let answer = c.in_ok-answer-in-None.answer in
    let is = subst (λ (t : Tables). IsAnswer t ask answer) (c.in_ok-x.ensures.world ∙ c.requires.court) c.in_ok-answer-in-None.ensures.answer in
    record { whole = answer-whole tables ask answer is.is_true }

pub returns-in_ok-shown-in-Some-clause-report : goal.returns-in_ok-shown-in-Some-clause-report
returns-in_ok-shown-in-Some-clause-report g c =
    let tables = tables_of c.args.world.now in
    let ask = c.question-ask.result.now in
    inl (record {
      ask = ask;
      at = c.question-ask.ensures;
      refutation = c.in-Some.x;
      is = rw (c.in-Some.is, c.requires.court) at c.in_ok-x.ensures.some;
      few = rw c.in-Some.is at c.in_ok-x.ensures.short;
      status_is = refl;
      text_is = c.in_ok-shown-in-Some.ensures;
    })

pub returns-in_ok-text-in-None-clause-report : goal.returns-in_ok-text-in-None-clause-report
returns-in_ok-text-in-None-clause-report g c =
    let tables = tables_of c.args.world.now in
    let ask = c.question-ask.result.now in
    let answer = c.in_ok-answer-in-None.answer in
    inr (record {
      ask = ask;
      at = c.question-ask.ensures;
      none = rw (c.in-None.is, c.requires.court) at c.in_ok-x.ensures.none;
      answer = answer;
      is = subst (λ (t : Tables). IsAnswer t ask answer) (c.in_ok-x.ensures.world ∙ c.requires.court) c.in_ok-answer-in-None.ensures.answer;
      status_is = c.status_when.ensures ∙ ap status_when c.is_yes.ensures;
      text_is = c.in_ok-text-in-None.ensures;
    })
