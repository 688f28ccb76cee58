use Rattle.std.proofs.Common.{◌≡◌, ◌∙◌, ◌<◌, ◌++◌, ◌∷◌, [], List, length, get_or, take, sym, ap, subst}
use Rattle.std.proofs.lemmas.List.{take_more}
use Rattle.tm_base.specs.declared.answer.Answer.{Answer}
use Rattle.tm_base.specs.declared.ask.Ask.{Ask}
use Rattle.tm_base.specs.Answers.{IsAnswer}
use Rattle.tm_base.specs.Tables.{Tables}
use Rattle.tm_base.specs.Worlds.{IsTypeOver, tables_of}
use Rattle.tm_run.specs.Answers.{AreAnswered, IsAnswered}
use Rattle.tm_run.proofs.answers.AnswerLemmas.{answered-so}
use Rattle.tm_run.proofs.answers.OverLemmas.{asked-at}
use Rattle.tm_run.proofs.answers.VerdictLemmas.{zip-push}
use Rattle.tm_run.proofs.reported.judging.answers.Goals as goal

pub answer-requires-clause-source : goal.answer-requires-clause-source
answer-requires-clause-source g c =
    let same = c.as_slice-ask-items.ensures in
    let at = c.loop-ask.ask-index in
    let item = c.ask-item.result in
    let less = subst (λ (xs : List Ask). at < length xs) same c.loop-ask-test.true in
    let is = subst (λ (xs : List Ask). item ≡ get_or xs at item) same c.ask-item.is in
    subst (λ (tables : Tables). IsTypeOver tables item.src) (sym c.loop-ask.invariant.0) (asked-at c.args.world.now at item less is).0

pub answer-requires-clause-target : goal.answer-requires-clause-target
answer-requires-clause-target g c =
    let same = c.as_slice-ask-items.ensures in
    let at = c.loop-ask.ask-index in
    let item = c.ask-item.result in
    let less = subst (λ (xs : List Ask). at < length xs) same c.loop-ask-test.true in
    let is = subst (λ (xs : List Ask). item ≡ get_or xs at item) same c.ask-item.is in
    subst (λ (tables : Tables). IsTypeOver tables item.dst) (sym c.loop-ask.invariant.0) (asked-at c.args.world.now at item less is).1

pub loop-ask-preserved : goal.loop-ask-preserved
loop-ask-preserved g c =
    let world = c.args.world.now in
    let asks = c.as_slice-ask-items.result.now in
    let at = c.loop-ask.ask-index in
    let item = c.ask-item.result in
    let answer = c.in_ok-answer.answer in
    let more = take_more asks at item c.loop-ask-test.true ∙ ap (λ a. take at asks ++ a ∷ []) (sym c.ask-item.is) in
    let one : IsAnswer (tables_of world) item answer = subst (λ (tables : Tables). IsAnswer tables item answer) c.loop-ask.invariant.0 c.in_ok-answer.ensures.answer in
    let all = zip-push (IsAnswered world) (take at asks) c.loop-ask.answers.items item answer c.loop-ask.invariant.1 (answered-so world item answer one) in (
      c.in_ok-answer.ensures.world ∙ c.loop-ask.invariant.0,
      subst (λ (xs : List Ask). AreAnswered world xs c.push.new.self.items) (sym more)
          (subst (λ (vs : List Answer). AreAnswered world (take at asks ++ item ∷ []) vs) (sym c.in_ok-push.ensures.items) all),
    )
