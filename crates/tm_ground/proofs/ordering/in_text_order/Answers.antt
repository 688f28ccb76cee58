use Rattle.std.proofs.Common.{rules, ◌∙◌, sym, subst}
use Rattle.std.specs.Cmp.Lexicographic.{slice_cmp}
use Rattle.std.specs.List.Sorted.{IsPermutation}
use Rattle.std.specs.Ordering.{is_lt, nat_cmp}
use Rattle.std.proofs.lemmas.Cmp.{nat_list_cmp_total}
use Rattle.std.proofs.lemmas.List.Sorted.{answers_always, ranks_by}
use Rattle.std.proofs.lemmas.Result.{IfOk-weaker}
use Rattle.tm_ground.specs.declared.ordering.Texted.{Texted}
use Rattle.tm_ground.specs.Sets.{closed_types}
use Rattle.tm_ground.specs.Texted.{AreInTextOrder}
use Rattle.tm_ground.proofs.world.OrderLemmas.{in-text-order, moved-distinct, moved-types}
use Rattle.tm_ground.proofs.ordering.in_text_order.Goals as goal

pub of-requires : goal.of-requires
of-requires c =
    moved-distinct (closed_types c.args.set.now) _ c.requires.distinct
    (moved-types c.in_ok-without_texts.field-0 _ c.in_ok-without_texts.ensures (closed_types c.args.set.now) c.in_ok-all.all.items (c.in_ok-all.ensures.types ∙ c.types.ensures) c.sort_unstable_by.ensures.permutation)

pub returns-clause-moved : goal.returns-clause-moved
returns-clause-moved c =
    let moved = moved-types c.in_ok-without_texts.field-0 _ c.in_ok-without_texts.ensures (closed_types c.args.set.now) c.in_ok-all.all.items (c.in_ok-all.ensures.types ∙ c.types.ensures) c.sort_unstable_by.ensures.permutation in
    IfOk-weaker c.of.result _ _ (λ ordered e. subst (IsPermutation (closed_types c.args.set.now)) (sym e) moved) c.of.ensures

pub returns-clause-sorted : goal.returns-clause-sorted
returns-clause-sorted c =
    let rows = closed_types c.args.found.now.named in
    let refs = closed_types c.args.found.now.refs in
    let by_text = c.sort_unstable_by.ensures.sorted (λ x y. is_lt (slice_cmp nat_cmp x.text y.text)) (ranks_by nat_list_cmp_total (λ (texted : Texted). texted.text)) (answers_always _ _ _ (λ f a r g k. search rules)) in
    let sorted = in-text-order c.in_ok-without_texts.field-0 _ c.in_ok-without_texts.ensures rows refs c.args.world.now c.in_ok-all.all.items c.in_ok-all.ensures.texts c.sort_unstable_by.ensures.permutation by_text in
    IfOk-weaker c.of.result _ _ (λ ordered e. subst (AreInTextOrder rows refs c.args.world.now) (sym e) sorted) c.of.ensures
