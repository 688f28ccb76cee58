use Rattle.std.proofs.Common.{◌∙◌, ◌<◌, sym, ap, subst, map}
use Rattle.tm_names.proofs.holding_laws.NewsLemmas.{all_unset, fewer_unset}
use Rattle.tm_names.proofs.holding_laws.OwnLemmas.{IsPartOfOwn, goes_on, starts, tells_own}
use Rattle.tm_names.specs.Closures.{joined_rows}
use Rattle.tm_names.specs.Held.{have_news, parameter_flags}
use Rattle.tm_names.specs.Source.{names_in}
use Rattle.tm_names.proofs.file.File.own_rows.Goals as goal

pub turns-init : goal.turns-init
turns-init c =
    let name = names_in c.args.self.now.source in
    let decls = c.args.self.now.definitions.now.decls.now in
    subst (IsPartOfOwn name decls) (sym c.in_ok-own.ensures) (starts name decls)

pub returns-then-not-have_news : goal.returns-then-not-have_news
returns-then-not-have_news c =
    let name = names_in c.args.self.now.source in
    let decls = c.args.self.now.definitions.now.decls.now in
    let found = c.as_slice-in-turns-2.ensures ∙ (c.in_ok-found.ensures ∙ ap (λ own. map (parameter_flags name decls own) decls) c.as_slice.ensures) in
    tells_own name decls c.turns.own c.turns.invariant
    (sym (c.if-not-have_news.ensures ∙ (ap (λ own. have_news own c.as_slice-in-turns-2.result.now) c.as_slice-in-turns.ensures
    ∙ ap (λ those. have_news c.turns.own those) found)))

pub turns-smaller : goal.turns-smaller
turns-smaller c =
    let name = names_in c.args.self.now.source in
    let decls = c.args.self.now.definitions.now.decls.now in
    let those = map (parameter_flags name decls c.turns.own) decls in
    let found = c.in_ok-found.ensures ∙ ap (λ own. map (parameter_flags name decls own) decls) c.as_slice.ensures in
    let next = c.in_ok-own-2.ensures ∙ (ap (λ own. joined_rows own c.as_slice-in-turns-4.result.now) c.as_slice-in-turns-3.ensures
    ∙ ap (λ those. joined_rows c.turns.own those) (c.as_slice-in-turns-4.ensures ∙ found)) in
    subst (λ own. all_unset own < all_unset c.turns.own) (sym next)
    (fewer_unset those 0 c.turns.own
    (sym (c.if-not-have_news.ensures ∙ (ap (λ own. have_news own c.as_slice-in-turns-2.result.now) c.as_slice-in-turns.ensures
    ∙ ap (λ those. have_news c.turns.own those) (c.as_slice-in-turns-2.ensures ∙ found)))))

pub turns-preserved : goal.turns-preserved
turns-preserved c =
    let name = names_in c.args.self.now.source in
    let decls = c.args.self.now.definitions.now.decls.now in
    let found = c.in_ok-found.ensures ∙ ap (λ own. map (parameter_flags name decls own) decls) c.as_slice.ensures in
    let next = c.in_ok-own-2.ensures ∙ (ap (λ own. joined_rows own c.as_slice-in-turns-4.result.now) c.as_slice-in-turns-3.ensures
    ∙ ap (λ those. joined_rows c.turns.own those) (c.as_slice-in-turns-4.ensures ∙ found)) in
    subst (IsPartOfOwn name decls) (sym next) (goes_on name decls c.turns.own c.turns.invariant)
