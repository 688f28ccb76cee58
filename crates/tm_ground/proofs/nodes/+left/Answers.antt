use Rattle.std.proofs.Common.{◌≡◌, ◌+◌, ◌∙◌, sym, ap, arith, map, [], ⊎_elim}
use Rattle.std.proofs.lemmas.List.{drop_all}
use Rattle.tm_ground.specs.Closed.{as_elements, nodes_in, put_in}
use Rattle.tm_ground.specs.Rooms.{left_after}
use Rattle.tm_ground.specs.Sets.{closed_types}
use Rattle.tm_ground.proofs.sizes.NodeLemmas.{then-left, none-left, no-room, all-room, left-Prim, left-Never, left-NonZero, left-Array, left-Wrap, left-Ref, left-Tuple, left-Named, left-Param, nodes-from}
use Rattle.tm_ground.proofs.forms.OpenLemmas.{put_in-Param, argument-at, argument-none, not-below}
use Rattle.tm_ground.proofs.sizes.SizeLemmas.{size_of, sizes_of, size_of-at, size_of-some, size-Tuple, size-Array, size-Wrap, size-Named, size-Ref}
use Rattle.tm_ground.proofs.nodes.+left.Goals as goal

pub all_left-left-requires : goal.all_left-left-requires
all_left-left-requires t c =
    let h = size_of-at c.args.types.now c.loop-item.item-index c.item-item.result c.loop-item-test.true c.item-item.is in
    (omega (arith, h), tt)

pub all_left-returns-in_err-room : goal.all_left-returns-in_err-room
all_left-returns-in_err-room t c = λ regions.
    let from = nodes-from (put_in regions (closed_types c.args.args.now)) c.args.types.now c.loop-item.item-index c.item-item.result c.loop-item-test.true c.item-item.is in
    let none = sym (c.left.ensures regions) ∙ c.in_err-room.was in
    c.from_residual.ensures ∙ none-left _ _ _ none ∙ ap (left_after c.loop-item.room) (sym from) ∙ c.loop-item.invariant regions

pub all_left-loop-item-preserved : goal.all_left-loop-item-preserved
all_left-loop-item-preserved t c = λ regions.
    let from = nodes-from (put_in regions (closed_types c.args.args.now)) c.args.types.now c.loop-item.item-index c.item-item.result c.loop-item-test.true c.item-item.is in
    let taken = sym (c.left.ensures regions) ∙ c.in_ok-room.was in
    sym (then-left _ _ _ _ taken) ∙ ap (left_after c.loop-item.room) (sym from) ∙ c.loop-item.invariant regions

pub all_left-returns : goal.all_left-returns
unfolding nodes_in
all_left-returns t c = λ regions.
    let none = ap (λ ts. nodes_in (as_elements (map (put_in regions (closed_types c.args.args.now)) ts))) (drop_all c.loop-item.item-index c.args.types.now c.loop-item-test.false) in
    all-room c.loop-item.room ∙ ap (left_after c.loop-item.room) (sym none) ∙ c.loop-item.invariant regions

pub left-returns-then-room-eq0 : goal.left-returns-then-room-eq0
left-returns-then-room-eq0 t c = λ regions. no-room c.args.room _ c.if-room-eq0.true

pub left-all_left-requires : goal.left-all_left-requires
left-all_left-requires t c =
    let same : size_of c.args.written.now ≡ 1 + sizes_of c.as_slice.result.now = rw (c.in-Tuple.is, c.as_slice.ensures) (size-Tuple _) in
    (omega (arith, same), tt)

pub left-left-requires : goal.left-left-requires
left-left-requires t c =
    let same : size_of c.args.written.now ≡ 1 + size_of c.get.result.now = rw (c.in-Array.is, c.get.ensures) (size-Array _ _) in
    (omega (arith, same), tt)

pub left-left-requires-in-Wrap : goal.left-left-requires-in-Wrap
left-left-requires-in-Wrap t c =
    let same : size_of c.args.written.now ≡ 1 + size_of c.get-in-Wrap.result.now = rw (c.in-Wrap.is, c.get-in-Wrap.ensures) (size-Wrap _ _) in
    (omega (arith, same), tt)

pub left-all_left-requires-in-Named : goal.left-all_left-requires-in-Named
left-all_left-requires-in-Named t c =
    let same : size_of c.args.written.now ≡ 1 + sizes_of c.as_slice-in-Named.result.now = rw (c.in-Named.is, c.as_slice-in-Named.ensures) (size-Named _ _ _) in
    (omega (arith, same), tt)

pub left-left-requires-in-Ref : goal.left-left-requires-in-Ref
left-left-requires-in-Ref t c =
    let same : size_of c.args.written.now ≡ 1 + size_of c.get-in-Ref.result.now = rw (c.in-Ref.is, c.get-in-Ref.ensures) (size-Ref _ _ _) in
    (omega (arith, same), tt)

pub left-left-requires-in-Some : goal.left-left-requires-in-Some
left-left-requires-in-Some t c =
    let h = size_of-at c.args.args.now c.in-Param.place c.in-Some.arg.now c.in-Some.ensures.lookup.3.0 c.in-Some.ensures.lookup.1 in
    (omega (arith, h, size_of-some c.args.written.now), tt)

pub left-returns-in-Prim : goal.left-returns-in-Prim
left-returns-in-Prim t c = λ regions.
    ⊎_elim
    (λ p. rw p.1 (left-Prim _ regions _ c.if-room-eq0.false p.0))
    (⊎_elim (λ e. rw e (left-Never _ regions _ c.if-room-eq0.false)) (λ p. rw p.1 (left-NonZero _ regions _ c.if-room-eq0.false p.0)))
    c.in-Prim.is

pub left-returns-in-Tuple : goal.left-returns-in-Tuple
left-returns-in-Tuple t c = λ regions. rw c.in-Tuple.is ((rw c.as_slice.ensures at (c.all_left.ensures regions)) ∙ left-Tuple _ regions _ c.if-room-eq0.false _)

pub left-returns-in-Array : goal.left-returns-in-Array
left-returns-in-Array t c = λ regions. rw c.in-Array.is ((rw c.get.ensures at (c.left.ensures regions)) ∙ left-Array _ regions _ c.if-room-eq0.false _ _)

pub left-returns-in-Wrap : goal.left-returns-in-Wrap
left-returns-in-Wrap t c = λ regions. rw c.in-Wrap.is ((rw c.get-in-Wrap.ensures at (c.left-in-Wrap.ensures regions)) ∙ left-Wrap _ regions _ c.if-room-eq0.false _ _)

pub left-returns-in-Named : goal.left-returns-in-Named
left-returns-in-Named t c = λ regions. rw c.in-Named.is ((rw c.as_slice-in-Named.ensures at (c.all_left-in-Named.ensures regions)) ∙ left-Named _ regions _ c.if-room-eq0.false _ _ _)

pub left-returns-in-Ref : goal.left-returns-in-Ref
left-returns-in-Ref t c = λ regions. rw c.in-Ref.is ((rw c.get-in-Ref.ensures at (c.left-in-Ref.ensures regions)) ∙ left-Ref _ regions _ c.if-room-eq0.false _ _ _)

pub left-returns-in-Some : goal.left-returns-in-Some
left-returns-in-Some t c = λ regions.
    let same = argument-at c.args.args.now c.in-Param.place c.in-Some.arg.now c.in-Some.ensures.lookup.3.0 c.in-Some.ensures.lookup.1 in
    rw (c.in-Param.is, put_in-Param, ← same) (c.left-in-Some.ensures [])

pub left-returns-in-None : goal.left-returns-in-None
left-returns-in-None t c = λ regions.
    rw c.in-Param.is (left-Param _ regions _ c.if-room-eq0.false _ (sym (argument-none c.args.args.now c.in-Param.place (not-below _ _ c.in-None.ensures.lookup.0))))
