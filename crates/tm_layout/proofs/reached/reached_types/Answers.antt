use Rattle.std.proofs.Common.{◌≡◌, ◌<◌, ◌∙◌, ap, refl, false, [], ◌∷◌, length, replicate, arith}
use Rattle.std.proofs.lemmas.List.{length-map}
use Rattle.tm_base.specs.Worlds.{tables_of}
use Rattle.tm_layout.specs.Reached.{types_at}
use Rattle.tm_layout.proofs.ReachedLemmas.{item-at, reaching-begins, reaching-step, reaching-ends}
use Rattle.tm_layout.proofs.reached.reached_types.Goals as goal

pub loop-place-init : goal.loop-place-init
loop-place-init c =
    let named : c.in_ok-named.named.items ≡ replicate (length c.args.world.now.named) false = c.in_ok-named.ensures ∙ ap (λ n. replicate n false) c.len.ensures in
    let refs : c.in_ok-refs.refs.items ≡ replicate (length c.args.world.now.refs) false = c.in_ok-refs.ensures ∙ ap (λ n. replicate n false) c.len-2.ensures in
    let one : types_at c.push.new.self.items ≡ c.args.g.now ∷ [] = rw (c.in_ok-push.ensures.items, c.new-types.ensures.items) refl in
    reaching-begins (tables_of c.args.world.now) c.args.g.now _ _ _ named refs one

pub loop-place-preserved : goal.loop-place-preserved
loop-place-preserved c =
    let items = c.loop-place.types.items in
    let below : c.loop-place.place < length items = omega (arith, c.loop-place-test.true, c.len-in-loop-place.ensures) in
    let is = item-at items c.loop-place.place c.index.result.now below c.index.ensures in
    reaching-step (tables_of c.args.world.now) c.args.g.now c.loop-place.place _ _ _ c.index.result.now.now _ _ _
    c.loop-place.invariant (omega (arith, below, length-map items (λ g. g.now))) is
    c.in_ok-add_entered.ensures.named c.in_ok-add_entered.ensures.refs c.in_ok-add_entered.ensures.types

pub returns : goal.returns
returns c = reaching-ends (tables_of c.args.world.now) c.args.g.now c.loop-place.place _ _ _ c.loop-place.invariant (omega (arith, c.loop-place-test.false, c.len-in-loop-place.ensures, length-map c.loop-place.types.items (λ g. g.now)))
