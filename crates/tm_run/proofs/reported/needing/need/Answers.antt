use Rattle.std.proofs.Common.{◌∙◌, ◌<◌, length, subst, sym, arith}
use Rattle.tm_base.specs.Answers.{IsAnswer}
use Rattle.tm_base.specs.Tables.{Tables}
use Rattle.tm_run.proofs.answers.AnswerLemmas.{unrefused-judged}
use Rattle.tm_run.proofs.answers.NeedLemmas.{some-judged}
use Rattle.tm_run.proofs.reported.needing.need.Goals as goal

pub returns-then-len-gt0-clause-need : goal.returns-then-len-gt0-clause-need
returns-then-len-gt0-clause-need g c =
    let is = c.len.ensures in
    let more = c.if-len-gt0.true in
    let some : 0 < length c.in_ok-sets.sets = omega (arith, is, more) in
    (some-judged c.args.court.now c.args.ask.now c.in_ok-sets.sets some c.in_ok-sets.ensures.least, c.in_ok-sets.ensures.least)

pub returns-clause-need : goal.returns-clause-need
returns-clause-need g c =
    let ask = c.args.ask.now in
    let answer = c.in_ok-answer.answer in
    let is = subst (λ (tables : Tables). IsAnswer tables ask answer) c.in_ok-sets.ensures.world c.in_ok-answer.ensures.answer in
    (unrefused-judged c.args.court.now ask answer (sym c.is_refusal.ensures ∙ c.if-is_refusal.false) is.is_true, c.in_ok-sets.ensures.least)
