use Rattle.std.proofs.Common.{◌≡◌, ◌+◌, refl, arith}
use Rattle.tm_ground.proofs.forms.OpenLemmas.{put_in-Prim, put_in-Never, put_in-Tuple, put_in-Array, put_in-NonZero, put_in-Wrap, put_in-Named, put_in-Ref, put_in-Param, argument-at, argument-none, not-below}
use Rattle.tm_ground.proofs.sizes.SizeLemmas.{size_of, sizes_of, size_of-at, size_of-some, size-Tuple, size-Array, size-Wrap, size-Named, size-Ref}
use Rattle.tm_ground.proofs.regions.+fixed.Goals as goal

pub all_fixed-fixed-requires : goal.all_fixed-fixed-requires
all_fixed-fixed-requires t c =
    let h = size_of-at c.args.types.now c.loop-item.item-index c.item-item.result c.loop-item-test.true c.item-item.is in
    (omega (arith, h), tt)

pub fixed-all_fixed-requires : goal.fixed-all_fixed-requires
fixed-all_fixed-requires t c =
    let same : size_of c.args.written.now ≡ 1 + sizes_of c.as_slice.result.now = rw (c.in-Tuple.is, c.as_slice.ensures) (size-Tuple _) in
    (omega (arith, same), tt)

pub fixed-fixed-requires : goal.fixed-fixed-requires
fixed-fixed-requires t c =
    let same : size_of c.args.written.now ≡ 1 + size_of c.get.result.now = rw (c.in-Array.is, c.get.ensures) (size-Array _ _) in
    (omega (arith, same), tt)

pub fixed-fixed-requires-in-Wrap : goal.fixed-fixed-requires-in-Wrap
fixed-fixed-requires-in-Wrap t c =
    let same : size_of c.args.written.now ≡ 1 + size_of c.get-in-Wrap.result.now = rw (c.in-Wrap.is, c.get-in-Wrap.ensures) (size-Wrap _ _) in
    (omega (arith, same), tt)

pub fixed-all_fixed-requires-in-Named : goal.fixed-all_fixed-requires-in-Named
fixed-all_fixed-requires-in-Named t c =
    let same : size_of c.args.written.now ≡ 1 + sizes_of c.as_slice-in-Named-2.result.now = rw (c.in-Named.is, c.as_slice-in-Named-2.ensures) (size-Named _ _ _) in
    (omega (arith, same), tt)

pub fixed-fixed-requires-in-Ref : goal.fixed-fixed-requires-in-Ref
fixed-fixed-requires-in-Ref t c =
    let same : size_of c.args.written.now ≡ 1 + size_of c.get-in-Ref.result.now = rw (c.in-Ref.is, c.get-in-Ref.ensures) (size-Ref _ _ _) in
    (omega (arith, same), tt)

pub fixed-fixed-requires-in-Some : goal.fixed-fixed-requires-in-Some
fixed-fixed-requires-in-Some t c =
    let h = size_of-at c.args.args.now c.in-Param.place c.in-Some.arg.now c.in-Some.ensures.lookup.3.0 c.in-Some.ensures.lookup.1 in
    (omega (arith, h, size_of-some c.args.written.now), tt)

pub fixed-returns-in-Prim : goal.fixed-returns-in-Prim
fixed-returns-in-Prim t c = rw (c.in-Prim.is, put_in-Prim, put_in-Prim) refl

pub fixed-returns-in-Never : goal.fixed-returns-in-Never
fixed-returns-in-Never t c = rw (c.in-Never.is, put_in-Never, put_in-Never) refl

pub fixed-returns-in_ok-elements-in-Tuple : goal.fixed-returns-in_ok-elements-in-Tuple
fixed-returns-in_ok-elements-in-Tuple t c =
    rw (c.in-Tuple.is, put_in-Tuple, put_in-Tuple, c.in_ok-elements-in-Tuple.ensures, c.as_slice.ensures) refl

pub fixed-returns-in_ok-element-in-Array : goal.fixed-returns-in_ok-element-in-Array
fixed-returns-in_ok-element-in-Array t c =
    rw (c.in-Array.is, put_in-Array, put_in-Array, c.in_ok-element-in-Array.ensures, c.in_ok-fixed-in-Array.ensures, c.get.ensures) refl

pub fixed-returns-in-NonZero : goal.fixed-returns-in-NonZero
fixed-returns-in-NonZero t c = rw (c.in-NonZero.is, put_in-NonZero, put_in-NonZero) refl

pub fixed-returns-in_ok-argument-in-Wrap : goal.fixed-returns-in_ok-argument-in-Wrap
fixed-returns-in_ok-argument-in-Wrap t c =
    rw (c.in-Wrap.is, put_in-Wrap, put_in-Wrap, c.in_ok-argument-in-Wrap.ensures, c.in_ok-fixed-in-Wrap.ensures, c.get-in-Wrap.ensures) refl

pub fixed-returns-in_ok-given-in-Named : goal.fixed-returns-in_ok-given-in-Named
fixed-returns-in_ok-given-in-Named t c =
    rw (c.in-Named.is, put_in-Named, put_in-Named, c.in_ok-lives-in-Named.ensures, c.as_slice-in-Named.ensures, c.in_ok-given-in-Named.ensures, c.as_slice-in-Named-2.ensures) refl

pub fixed-returns-in_ok-pointee-in-Ref : goal.fixed-returns-in_ok-pointee-in-Ref
fixed-returns-in_ok-pointee-in-Ref t c =
    rw (c.in-Ref.is, put_in-Ref, put_in-Ref, c.in_ok-pointee-in-Ref.ensures, c.in_ok-fixed-in-Ref.ensures, c.get-in-Ref.ensures, c.region.ensures) refl

pub fixed-returns-in-Some : goal.fixed-returns-in-Some
fixed-returns-in-Some t c =
    let same = argument-at c.args.args.now c.in-Param.place c.in-Some.arg.now c.in-Some.ensures.lookup.3.0 c.in-Some.ensures.lookup.1 in
    rw (c.in-Param.is, put_in-Param, ← same) c.fixed-in-Some.ensures

pub fixed-returns-in-None : goal.fixed-returns-in-None
fixed-returns-in-None t c = rw (c.in-Param.is, put_in-Never, put_in-Param) (argument-none c.args.args.now c.in-Param.place (not-below _ _ c.in-None.ensures.lookup.0))
