use Rattle.std.proofs.Common.{◌≡◌, ◌∙◌, ◌<◌, ◌++◌, ◌∷◌, [], List, length, get_or, take, sym, ap, subst}
use Rattle.std.specs.List.{AllZip}
use Rattle.std.proofs.lemmas.List.{take_more}
use Rattle.tm_base.specs.declared.ask.Ask.{Ask}
use Rattle.tm_base.specs.Tables.{Tables}
use Rattle.tm_base.specs.Worlds.{IsTypeOver, tables_of}
use Rattle.tm_run.specs.Needs.{IsNeed}
use Rattle.tm_run.specs.declared.reported.need.Need.{Need}
use Rattle.tm_run.proofs.answers.OverLemmas.{asked-at}
use Rattle.tm_run.proofs.answers.VerdictLemmas.{zip-push}
use Rattle.tm_run.proofs.reported.needing.needs.Goals as goal

pub need-requires-clause-source : goal.need-requires-clause-source
need-requires-clause-source g c =
    let same = c.as_slice-ask-items.ensures in
    let at = c.loop-ask.ask-index in
    let item = c.ask-item.result in
    let less = subst (λ (xs : List Ask). at < length xs) same c.loop-ask-test.true in
    let is = subst (λ (xs : List Ask). item ≡ get_or xs at item) same c.ask-item.is in
    subst (λ (tables : Tables). IsTypeOver tables item.src) (sym c.loop-ask.invariant.0) (asked-at c.args.world.now at item less is).0

pub need-requires-clause-target : goal.need-requires-clause-target
need-requires-clause-target g c =
    let same = c.as_slice-ask-items.ensures in
    let at = c.loop-ask.ask-index in
    let item = c.ask-item.result in
    let less = subst (λ (xs : List Ask). at < length xs) same c.loop-ask-test.true in
    let is = subst (λ (xs : List Ask). item ≡ get_or xs at item) same c.ask-item.is in
    subst (λ (tables : Tables). IsTypeOver tables item.dst) (sym c.loop-ask.invariant.0) (asked-at c.args.world.now at item less is).1

pub loop-ask-preserved : goal.loop-ask-preserved
loop-ask-preserved g c =
    let tables = tables_of c.args.world.now in
    let asks = c.as_slice-ask-items.result.now in
    let at = c.loop-ask.ask-index in
    let item = c.ask-item.result in
    let need = c.in_ok-need.field-0 in
    let more = take_more asks at item c.loop-ask-test.true ∙ ap (λ a. take at asks ++ a ∷ []) (sym c.ask-item.is) in
    let one : IsNeed tables item need = subst (λ (t : Tables). IsNeed t item need) c.loop-ask.invariant.0 c.in_ok-need.ensures.need in
    let all = zip-push (IsNeed tables) (take at asks) c.loop-ask.needs.items item need c.loop-ask.invariant.1 one in (
      c.in_ok-need.ensures.court ∙ c.loop-ask.invariant.0,
      subst (λ (xs : List Ask). AllZip (IsNeed tables) xs c.push.new.self.items) (sym more)
          (subst (λ (ns : List Need). AllZip (IsNeed tables) (take at asks ++ item ∷ []) ns) (sym c.in_ok-push.ensures.items) all),
    )
