use Rattle.std.proofs.Common.{◌≡◌, ◌<◌, ◌+◌, ◌∙◌, sym, ap, subst, arith, length, map, ◌≢◌, true≢false}
use Rattle.std.proofs.lemmas.Bool.Decides.{Decides-eqb}
use Rattle.std.proofs.lemmas.List.{length-map}
use Rattle.tm_ground.specs.Closed.{as_elements, put_in, tuple}
use Rattle.tm_ground.specs.Numbered.{HasNumbers}
use Rattle.tm_ground.specs.Sets.{closed_types}
use Rattle.tm_ground.proofs.numbers.NumberLemmas.{has-Array, has-Wrap, has-Tuple, has-Named, has-Ref, numbers-Prim, numbers-Never, numbers-Param, numbers-Array, numbers-NonZero, numbers-Wrap, numbers-Named, numbers-Ref, tuple-numbered, unit-numbered, numbered-more, contains-map, numbers-result}
use Rattle.tm_ground.proofs.forms.OpenLemmas.{put_in-Tuple, put_in-Param, argument-at, argument-none, not-below}
use Rattle.tm_ground.proofs.sizes.SizeLemmas.{size_of, sizes_of, size-Array, size-Tuple, size-Wrap, size_of-at, size_of-some}
use Rattle.tm_ground.proofs.numbering.+numbered.Goals as goal

pub all_numbered-numbered-requires : goal.all_numbered-numbered-requires
all_numbered-numbered-requires t c =
    let h = size_of-at c.args.types.now c.loop-ty.ty-index c.ty-item.result c.loop-ty-test.true c.ty-item.is in
    (omega (arith, h), c.requires.each _ (contains-map (put_in c.args.regions.now (closed_types c.args.args.now)) c.args.types.now c.loop-ty.ty-index c.ty-item.result c.loop-ty-test.true c.ty-item.is))

pub all_numbered-loop-ty-preserved : goal.all_numbered-loop-ty-preserved
all_numbered-loop-ty-preserved t c =
    numbered-more _ (put_in c.args.regions.now (closed_types c.args.args.now)) c.args.types.now c.loop-ty.ty-index _ _ c.ty-item.result _ c.loop-ty-test.true c.ty-item.is c.loop-ty.invariant c.in_ok-numbered.ensures c.in_ok-add.ensures.added

pub numbered-numbered_tuple-requires : goal.numbered-numbered_tuple-requires
numbered-numbered_tuple-requires t c =
    let size : size_of c.args.ty.now ≡ 1 + sizes_of c.as_slice.result.now = rw (c.in-Tuple.is, c.as_slice.ensures) (size-Tuple _) in
    let has = subst (λ w. HasNumbers (closed_types c.args.found.now.named) (closed_types c.args.found.now.refs) (put_in c.args.regions.now (closed_types c.args.args.now) w)) c.in-Tuple.is c.requires in
    (omega (arith, size), rw c.as_slice.ensures (has-Tuple _ _ _ _ _ has))

pub numbered-numbered-requires : goal.numbered-numbered-requires
numbered-numbered-requires t c =
    let size : size_of c.args.ty.now ≡ 1 + size_of c.get.result.now = rw (c.in-Array.is, c.get.ensures) (size-Array _ _) in
    let has = subst (λ w. HasNumbers (closed_types c.args.found.now.named) (closed_types c.args.found.now.refs) (put_in c.args.regions.now (closed_types c.args.args.now) w)) c.in-Array.is c.requires in
    (omega (arith, size), rw c.get.ensures (has-Array _ _ _ _ _ _ has))

pub numbered-numbered-requires-in-Wrap : goal.numbered-numbered-requires-in-Wrap
numbered-numbered-requires-in-Wrap t c =
    let size : size_of c.args.ty.now ≡ 1 + size_of c.get-in-Wrap.result.now = rw (c.in-Wrap.is, c.get-in-Wrap.ensures) (size-Wrap _ _) in
    let has = subst (λ w. HasNumbers (closed_types c.args.found.now.named) (closed_types c.args.found.now.refs) (put_in c.args.regions.now (closed_types c.args.args.now) w)) c.in-Wrap.is c.requires in
    (omega (arith, size), rw c.get-in-Wrap.ensures (has-Wrap _ _ _ _ _ _ has))

pub numbered-place-requires-clause-there : goal.numbered-place-requires-clause-there
numbered-place-requires-clause-there t c =
    let has = subst (λ w. HasNumbers (closed_types c.args.found.now.named) (closed_types c.args.found.now.refs) (put_in c.args.regions.now (closed_types c.args.args.now) w)) c.in-Named.is c.requires in
    rw c.in-Named.is (has-Named _ _ _ _ _ _ _ has)

pub numbered-place-requires-in-Ref-clause-there : goal.numbered-place-requires-in-Ref-clause-there
numbered-place-requires-in-Ref-clause-there t c =
    let has = subst (λ w. HasNumbers (closed_types c.args.found.now.named) (closed_types c.args.found.now.refs) (put_in c.args.regions.now (closed_types c.args.args.now) w)) c.in-Ref.is c.requires in
    rw c.in-Ref.is (has-Ref _ _ _ _ _ _ _ has)

pub numbered-returns-in-Prim : goal.numbered-returns-in-Prim
numbered-returns-in-Prim t c = rw c.in-Prim.is (numbers-Prim _ _ _ _ _)

pub numbered-returns-in-Never : goal.numbered-returns-in-Never
numbered-returns-in-Never t c = rw c.in-Never.is (numbers-Never _ _ _ _)

pub numbered-returns-in-None : goal.numbered-returns-in-None
numbered-returns-in-None t c = rw c.in-Param.is (numbers-Param _ _ _ _ _ (sym (argument-none c.args.args.now c.in-Param.place (not-below _ _ c.in-None.ensures.lookup.0))))

pub numbered-returns-in-Tuple : goal.numbered-returns-in-Tuple
numbered-returns-in-Tuple t c =
    let same = ap (λ ts. tuple (as_elements (map (put_in c.args.regions.now (closed_types c.args.args.now)) ts))) c.as_slice.ensures ∙ sym (put_in-Tuple _ _ _) ∙ ap (put_in c.args.regions.now (closed_types c.args.args.now)) (sym c.in-Tuple.is) in
    numbers-result _ _ _ _ c.numbered_tuple.result same c.numbered_tuple.ensures

pub numbered-returns-in_ok-new-in-Array : goal.numbered-returns-in_ok-new-in-Array
numbered-returns-in_ok-new-in-Array t c = rw (c.in-Array.is, c.in_ok-new-in-Array.ensures) (numbers-Array _ _ _ _ _ _ _ (rw c.get.ensures at c.in_ok-element-in-Array.ensures))

pub numbered-returns-in-NonZero : goal.numbered-returns-in-NonZero
numbered-returns-in-NonZero t c = rw c.in-NonZero.is (numbers-NonZero _ _ _ _ _)

pub numbered-returns-in_ok-new-in-Wrap : goal.numbered-returns-in_ok-new-in-Wrap
numbered-returns-in_ok-new-in-Wrap t c = rw (c.in-Wrap.is, c.in_ok-new-in-Wrap.ensures) (numbers-Wrap _ _ _ _ _ _ _ (rw c.get-in-Wrap.ensures at c.in_ok-argument-in-Wrap.ensures))

pub numbered-returns-in_ok-place-in-Named : goal.numbered-returns-in_ok-place-in-Named
numbered-returns-in_ok-place-in-Named t c = rw c.in-Named.is (numbers-Named _ _ _ _ _ _ _ _ (rw c.in-Named.is at c.in_ok-place-in-Named.ensures))

pub numbered-returns-in_ok-place-in-Ref : goal.numbered-returns-in_ok-place-in-Ref
numbered-returns-in_ok-place-in-Ref t c = rw c.in-Ref.is (numbers-Ref _ _ _ _ _ _ _ _ (rw c.in-Ref.is at c.in_ok-place-in-Ref.ensures))

pub numbered_tuple-returns-then-is_empty : goal.numbered_tuple-returns-then-is_empty
numbered_tuple-returns-then-is_empty t c =
    let none = (Decides-eqb (length c.args.elements.now) 0).0 (sym c.is_empty.ensures ∙ c.if-is_empty.true) in
    unit-numbered _ _ _ (length-map c.args.elements.now (put_in c.args.regions.now (closed_types c.args.args.now)) ∙ none)

pub numbered_tuple-all_numbered-requires : goal.numbered_tuple-all_numbered-requires
numbered_tuple-all_numbered-requires t c = (omega arith, c.requires)

pub numbered_tuple-returns : goal.numbered_tuple-returns
numbered_tuple-returns t c =
    let not_none : length c.args.elements.now ≢ 0 = λ e. true≢false (sym ((Decides-eqb (length c.args.elements.now) 0).1 e) ∙ sym c.is_empty.ensures ∙ c.if-is_empty.false) in
    let some : 0 < length (map (put_in c.args.regions.now (closed_types c.args.args.now)) c.args.elements.now) = omega (arith, length-map c.args.elements.now (put_in c.args.regions.now (closed_types c.args.args.now)), not_none) in
    tuple-numbered _ _ _ _ some c.in_ok-elements.ensures

pub numbered-numbered-requires-in-Some : goal.numbered-numbered-requires-in-Some
numbered-numbered-requires-in-Some t c =
    let size = size_of-at c.args.args.now c.in-Param.place c.in-Some.arg.now c.in-Some.ensures.lookup.3.0 c.in-Some.ensures.lookup.1 in
    let same = argument-at c.args.args.now c.in-Param.place c.in-Some.arg.now c.in-Some.ensures.lookup.3.0 c.in-Some.ensures.lookup.1 in
    (omega (arith, size, size_of-some c.args.ty.now), rw (c.in-Param.is, put_in-Param, ← same) at c.requires)

pub numbered-returns-in-Some : goal.numbered-returns-in-Some
numbered-returns-in-Some t c =
    let same = argument-at c.args.args.now c.in-Param.place c.in-Some.arg.now c.in-Some.ensures.lookup.3.0 c.in-Some.ensures.lookup.1 in
    rw (c.in-Param.is, put_in-Param, ← same) c.numbered-in-Some.ensures
