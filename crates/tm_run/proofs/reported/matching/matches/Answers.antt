use Rattle.std.proofs.Common.{◌≡◌, ◌∙◌, ◌<◌, ◌++◌, ◌∷◌, [], List, length, get_or, take, sym, ap, subst}
use Rattle.std.specs.List.{AllZip}
use Rattle.std.proofs.lemmas.List.{take_more}
use Rattle.tm_base.specs.declared.ask.Ask.{Ask}
use Rattle.tm_base.specs.Worlds.{tables_of}
use Rattle.tm_run.specs.Matches.{IsMatch}
use Rattle.tm_run.specs.declared.matched.Match.{Match}
use Rattle.tm_run.proofs.answers.OverLemmas.{asked-at}
use Rattle.tm_run.proofs.answers.VerdictLemmas.{zip-push}
use Rattle.tm_run.proofs.reported.matching.matches.Goals as goal

pub match_with-requires-clause-over : goal.match_with-requires-clause-over
match_with-requires-clause-over c =
    let same = c.as_slice-ask-items.ensures in
    let at = c.loop-ask.ask-index in
    let item = c.ask-item.result in
    let less = subst (λ (xs : List Ask). at < length xs) same c.loop-ask-test.true in
    let is = subst (λ (xs : List Ask). item ≡ get_or xs at item) same c.ask-item.is in
    (asked-at c.args.world.now at item less is).1

pub loop-ask-preserved : goal.loop-ask-preserved
loop-ask-preserved c =
    let asks = c.as_slice-ask-items.result.now in
    let at = c.loop-ask.ask-index in
    let item = c.ask-item.result in
    let found = c.in_ok-match_with.field-0 in
    let R = IsMatch (tables_of c.args.world.now) c.args.bytes.now in
    let more = take_more asks at item c.loop-ask-test.true ∙ ap (λ a. take at asks ++ a ∷ []) (sym c.ask-item.is) in
    let all = zip-push R (take at asks) c.loop-ask.matches.items item found c.loop-ask.invariant c.in_ok-match_with.ensures in
    subst (λ (xs : List Ask). AllZip R xs c.push.new.self.items) (sym more)
    (subst (λ (ms : List Match). AllZip R (take at asks ++ item ∷ []) ms) (sym c.in_ok-push.ensures.items) all)
