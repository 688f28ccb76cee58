use Rattle.std.proofs.Common.{◌≡◌, ◌∙◌, List, [], ◌∷◌, ◌++◌, filter, sym, ap, subst, rules}
use Rattle.std.proofs.lemmas.Fn.{filter_same}
use Rattle.tm_walk.specs.declared.obligation.Obligation.{Obligation}
use Rattle.tm_walk.specs.Obligations.{AreAdded, IsAntichain}
use Rattle.tm_walk.proofs.AddedLemmas.{added_there, added_last, apart}
use Rattle.tm_walk.proofs.ImpliesLemmas.{antichain_filter, antichain_last}
use Rattle.tm_walk.proofs.antichain.Antichain.add.Goals as goal

pub returns-then-implies : goal.returns-then-implies
returns-then-implies c = added_there c.args.self.now c.args.obligation (sym c.implies.ensures ∙ c.if-implies.true)

pub invariant_of-self : goal.invariant_of-self
invariant_of-self c =
    let os = c.self.inside.obligations.items in
    let kept : c.retain.new.self.items ≡ filter (apart os c.args.obligation) os = filter_same _ (apart os c.args.obligation) _ (λ x b f' k. search rules) _ _ c.retain.ensures.filtered in
    subst IsAntichain (sym (c.in_err-push.ensures.items ∙ kept)) (antichain_filter (apart os c.args.obligation) os c.self.invariant)

pub invariant_of-self-2 : goal.invariant_of-self-2
invariant_of-self-2 c =
    let os = c.self.inside.obligations.items in
    let kept : c.retain.new.self.items ≡ filter (apart os c.args.obligation) os = filter_same _ (apart os c.args.obligation) _ (λ x b f' k. search rules) _ _ c.retain.ensures.filtered in
    let all = c.in_ok-push.ensures.items ∙ ap (λ (z : List Obligation). z ++ c.args.obligation ∷ []) kept in
    subst IsAntichain (sym all) (antichain_last os c.args.obligation c.self.invariant (rw (← c.self.view_is) at (sym c.implies.ensures ∙ c.if-implies.false)))

pub returns : goal.returns
returns c =
    let os = c.self.inside.obligations.items in
    let kept : c.retain.new.self.items ≡ filter (apart os c.args.obligation) os = filter_same _ (apart os c.args.obligation) _ (λ x b f' k. search rules) _ _ c.retain.ensures.filtered in
    let all = c.in_ok-push.ensures.items ∙ ap (λ (z : List Obligation). z ++ c.args.obligation ∷ []) kept in
    rw (← c.self.view_is) (subst (AreAdded (λ other. other ≡ c.args.obligation) os) (sym all) (added_last os c.args.obligation))
