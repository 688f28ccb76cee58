use Rattle.std.proofs.Common.{◌≡◌, ◌+◌, sym, arith, append_assoc}
use Rattle.tm_ground.proofs.forms.OpenLemmas.{put_in-Param, argument-at, argument-none, not-below}
use Rattle.tm_ground.proofs.sizes.SizeLemmas.{size_of, sizes_of, size_of-at, size_of-some, size-Tuple, size-Array, size-Wrap, size-Named, size-Ref}
use Rattle.tm_ground.proofs.finding.CodeLemmas.{code-Prim, code-Tuple, code-Array, code-NonZero, code-Wrap, code-Named, code-Ref, code-Never, code-Param}
use Rattle.tm_ground.proofs.code.Code.+add.Goals as goal

pub add_all-add-requires : goal.add_all-add-requires
add_all-add-requires t c =
    let h = size_of-at c.args.types.now c.loop-item.item-index c.item-item.result c.loop-item-test.true c.item-item.is in
    (omega (arith, h), tt)

pub add-add_all-requires : goal.add-add_all-requires
add-add_all-requires t c =
    let same : size_of c.args.ty.now ≡ 1 + sizes_of c.as_slice.result.now = rw (c.in-Tuple.is, c.as_slice.ensures) (size-Tuple _) in
    (omega (arith, same), tt)

pub add-add-requires : goal.add-add-requires
add-add-requires t c =
    let same : size_of c.args.ty.now ≡ 1 + size_of c.get.result.now = rw (c.in-Array.is, c.get.ensures) (size-Array _ _) in
    (omega (arith, same), tt)

pub add-add-requires-in-Wrap : goal.add-add-requires-in-Wrap
add-add-requires-in-Wrap t c =
    let same : size_of c.args.ty.now ≡ 1 + size_of c.get-in-Wrap.result.now = rw (c.in-Wrap.is, c.get-in-Wrap.ensures) (size-Wrap _ _) in
    (omega (arith, same), tt)

pub add-add_all-requires-in-Named : goal.add-add_all-requires-in-Named
add-add_all-requires-in-Named t c =
    let same : size_of c.args.ty.now ≡ 1 + sizes_of c.as_slice-in-Named-2.result.now = rw (c.in-Named.is, c.as_slice-in-Named-2.ensures) (size-Named _ _ _) in
    (omega (arith, same), tt)

pub add-add-requires-in-Ref : goal.add-add-requires-in-Ref
add-add-requires-in-Ref t c =
    let same : size_of c.args.ty.now ≡ 1 + size_of c.get-in-Ref.result.now = rw (c.in-Ref.is, c.get-in-Ref.ensures) (size-Ref _ _ _) in
    (omega (arith, same), tt)

pub add-returns-in-Prim : goal.add-returns-in-Prim
add-returns-in-Prim t c = rw (c.in-Prim.is, code-Prim) (rw c.number_of_primitive.ensures at c.add_numbers.ensures)

pub add-returns-in-NonZero : goal.add-returns-in-NonZero
add-returns-in-NonZero t c = rw (c.in-NonZero.is, code-NonZero) (rw c.number_of_primitive-in-NonZero.ensures at c.add_numbers-in-NonZero.ensures)

pub add-returns-in_ok-add_numbers-in-Tuple : goal.add-returns-in_ok-add_numbers-in-Tuple
add-returns-in_ok-add_numbers-in-Tuple t c =
    rw (c.in-Tuple.is, code-Tuple) (rw (c.in_ok-add_numbers-in-Tuple.ensures, c.as_slice.ensures, append_assoc) at c.add_all.ensures)

pub add-returns-in_ok-add_numbers-in-Array : goal.add-returns-in_ok-add_numbers-in-Array
add-returns-in_ok-add_numbers-in-Array t c =
    rw (c.in-Array.is, code-Array) (rw (c.in_ok-add_numbers-in-Array.ensures, c.get.ensures, append_assoc) at c.add.ensures)

pub add-returns-in_ok-add_numbers-in-Wrap : goal.add-returns-in_ok-add_numbers-in-Wrap
add-returns-in_ok-add_numbers-in-Wrap t c =
    rw (c.in-Wrap.is, code-Wrap) (rw (c.in_ok-add_numbers-in-Wrap.ensures, c.number_of_wrapper.ensures, c.get-in-Wrap.ensures, append_assoc) at c.add-in-Wrap.ensures)

pub add-returns-in_ok-add_lives-in-Named : goal.add-returns-in_ok-add_lives-in-Named
add-returns-in_ok-add_lives-in-Named t c =
    rw (c.in-Named.is, code-Named) (rw (c.in_ok-add_lives-in-Named.ensures, c.in_ok-add_numbers-in-Named.ensures, c.as_slice-in-Named.ensures, c.as_slice-in-Named-2.ensures, append_assoc, append_assoc) at c.add_all-in-Named.ensures)

pub add-returns-in_ok-add_numbers-in-Ref : goal.add-returns-in_ok-add_numbers-in-Ref
add-returns-in_ok-add_numbers-in-Ref t c =
    rw (c.in-Ref.is, code-Ref) (rw (c.in_ok-add_numbers-in-Ref.ensures, c.region-region.ensures, c.number_of_flag.ensures, c.get-in-Ref.ensures, append_assoc) at c.add-in-Ref.ensures)

pub add-add-requires-in-Some : goal.add-add-requires-in-Some
add-add-requires-in-Some t c =
    let h = size_of-at c.args.args.now c.in-Param.place c.in-Some.arg.now c.in-Some.ensures.lookup.3.0 c.in-Some.ensures.lookup.1 in
    (omega (arith, h, size_of-some c.args.ty.now), tt)

pub add-returns-in-Some : goal.add-returns-in-Some
add-returns-in-Some t c =
    let same = argument-at c.args.args.now c.in-Param.place c.in-Some.arg.now c.in-Some.ensures.lookup.3.0 c.in-Some.ensures.lookup.1 in
    rw (c.in-Param.is, put_in-Param, ← same) c.add-in-Some.ensures

pub add-returns-in-None : goal.add-returns-in-None
add-returns-in-None t c =
    let none = code-Param c.args.regions.now _ c.in-Param.place (sym (argument-none c.args.args.now c.in-Param.place (not-below _ _ c.in-None.ensures.lookup.0))) in
    rw (c.in-Param.is, none) c.add_numbers-in-None.ensures

pub add-returns-in-Never : goal.add-returns-in-Never
add-returns-in-Never t c = rw (c.in-Never.is, code-Never) c.add_numbers-in-Never.ensures
