use Rattle.std.proofs.Common.{rules, arith, ◌≡◌, ◌+◌, ◌-◌, ◌<◌, suc, sym, append-nil, append_assoc, length}
use Rattle.tm_base.specs.declared.ground.Ground.{Named, Ref}
use Rattle.tm_base.specs.Texts.{region_text, text_within}
use Rattle.tm_base.specs.Worlds.{tables_of}
use Rattle.tm_base.proofs.SpellingLemmas.{nodes_within, sum_within, nodes-Tuple, nodes-Array, nodes-Wrap, nodes-Named, nodes-Ref, nodes-at}
use Rattle.tm_base.proofs.TextLemmas.{def-given, text-Prim, text-Never, text-Unit, text-NonZero, text-Named, text-Array, text-Wrap, text-Tuple, text-Ref, nowhere-Named, nowhere-Ref, nothing-Named, nothing-Ref}
use Rattle.tm_base.proofs.spelling.+spelling.Goals as goal

pub write_other_types-write_type-requires : goal.write_other_types-write_type-requires
write_other_types-write_type-requires t c =
    let at = nodes-at c.args.world.now.named c.args.world.now.refs c.args.left c.args.types.now c.loop-item.item-index c.item-item.result c.loop-item-test.true in
    let smaller : 2 + nodes_within c.args.world.now.named c.args.world.now.refs c.args.left c.item-item.result < 3 + sum_within c.args.world.now.named c.args.world.now.refs c.args.left c.args.types.now = rw c.item-item.is (omega arith) in
    search rules

pub write_type-write_tuple-requires : goal.write_type-write_tuple-requires
write_type-write_tuple-requires t c =
    let smaller : 5 + sum_within c.args.world.now.named c.args.world.now.refs c.args.left c.as_slice.result.now < 2 + nodes_within c.args.world.now.named c.args.world.now.refs c.args.left c.args.g.now = rw (c.in-Tuple.is, c.as_slice.ensures, nodes-Tuple) (omega arith) in
    search rules

pub write_type-write_array-requires : goal.write_type-write_array-requires
write_type-write_array-requires t c =
    let smaller : 3 + nodes_within c.args.world.now.named c.args.world.now.refs c.args.left c.get.result.now < 2 + nodes_within c.args.world.now.named c.args.world.now.refs c.args.left c.args.g.now = rw (c.in-Array.is, c.get.ensures, nodes-Array) (omega arith) in
    search rules

pub write_type-write_wrap-requires : goal.write_type-write_wrap-requires
write_type-write_wrap-requires t c =
    let smaller : 3 + nodes_within c.args.world.now.named c.args.world.now.refs c.args.left c.get-in-Wrap.result.now < 2 + nodes_within c.args.world.now.named c.args.world.now.refs c.args.left c.args.g.now = rw (c.in-Wrap.is, c.get-in-Wrap.ensures, nodes-Wrap) (omega arith) in
    search rules

pub write_type-returns-in-Prim : goal.write_type-returns-in-Prim
write_type-returns-in-Prim t c = rw (c.in-Prim.is, text-Prim, ← c.primitive_word.ensures) c.push_str.ensures.added

pub write_type-returns-in-Never : goal.write_type-returns-in-Never
write_type-returns-in-Never t c = rw (c.in-Never.is, text-Never) c.push_str-in-Never.ensures.added

pub write_type-returns-in-Unit : goal.write_type-returns-in-Unit
write_type-returns-in-Unit t c = rw (c.in-Unit.is, text-Unit) c.push_str-in-Unit.ensures.added

pub write_type-returns-in-Tuple : goal.write_type-returns-in-Tuple
write_type-returns-in-Tuple t c = rw (c.in-Tuple.is, text-Tuple, ← c.as_slice.ensures) c.write_tuple.ensures

pub write_type-returns-in-Array : goal.write_type-returns-in-Array
write_type-returns-in-Array t c = rw (c.in-Array.is, text-Array, ← c.get.ensures) c.write_array.ensures

pub write_type-returns-in-NonZero : goal.write_type-returns-in-NonZero
write_type-returns-in-NonZero t c = rw (c.in-NonZero.is, text-NonZero) c.write_nonzero.ensures

pub write_type-returns-in-Wrap : goal.write_type-returns-in-Wrap
write_type-returns-in-Wrap t c = rw (c.in-Wrap.is, text-Wrap, ← c.get-in-Wrap.ensures) c.write_wrap.ensures

pub write_named-returns-then-left-eq0 : goal.write_named-returns-then-left-eq0
write_named-returns-then-left-eq0 t c = rw (c.if-left-eq0.true, nowhere-Named) (sym (append-nil _))

pub write_named-returns-in-None : goal.write_named-returns-in-None
write_named-returns-in-None t c = rw (nothing-Named (tables_of c.args.world.now) c.args.left c.args.id (sym c.in-None.ensures.item)) (sym (append-nil _))

pub write_named-write_row-requires : goal.write_named-write_row-requires
write_named-write_row-requires t c =
    let some : c.args.left ≡ suc (c.args.left - 1) = omega (arith, c.if-left-eq0.false) in
    let nodes = nodes-Named c.args.world.now.named c.args.world.now.refs c.args.left (c.args.left - 1) c.args.id c.in-Some.row.now some (sym c.in-Some.ensures.item) in
    let smaller : 6 + sum_within c.args.world.now.named c.args.world.now.refs (c.args.left - 1) c.in-Some.row.now.args < 1 + nodes_within c.args.world.now.named c.args.world.now.refs c.args.left (Named c.args.id) = rw nodes (omega arith) in
    search rules

pub write_named-returns-in-Some : goal.write_named-returns-in-Some
write_named-returns-in-Some t c =
    let some : c.args.left ≡ suc (c.args.left - 1) = omega (arith, c.if-left-eq0.false) in
    rw (text-Named (tables_of c.args.world.now) c.args.left (c.args.left - 1) c.args.id c.in-Some.row.now some (sym c.in-Some.ensures.item)) c.write_row.ensures

pub write_ref-returns-then-left-eq0 : goal.write_ref-returns-then-left-eq0
write_ref-returns-then-left-eq0 t c = rw (c.if-left-eq0.true, nowhere-Ref) (sym (append-nil _))

pub write_ref-returns-in-None : goal.write_ref-returns-in-None
write_ref-returns-in-None t c = rw (nothing-Ref (tables_of c.args.world.now) c.args.left c.args.id (sym c.in-None.ensures.item)) (sym (append-nil _))

pub write_ref-write_row_of_ref-requires : goal.write_ref-write_row_of_ref-requires
write_ref-write_row_of_ref-requires t c =
    let some : c.args.left ≡ suc (c.args.left - 1) = omega (arith, c.if-left-eq0.false) in
    let nodes = nodes-Ref c.args.world.now.named c.args.world.now.refs c.args.left (c.args.left - 1) c.args.id c.in-Some.row.now some (sym c.in-Some.ensures.item) in
    let smaller : 3 + nodes_within c.args.world.now.named c.args.world.now.refs (c.args.left - 1) c.in-Some.row.now.pointee < 1 + nodes_within c.args.world.now.named c.args.world.now.refs c.args.left (Ref c.args.id) = rw nodes (omega arith) in
    search rules

pub write_ref-returns-in-Some : goal.write_ref-returns-in-Some
write_ref-returns-in-Some t c =
    let some : c.args.left ≡ suc (c.args.left - 1) = omega (arith, c.if-left-eq0.false) in
    rw (text-Ref (tables_of c.args.world.now) c.args.left (c.args.left - 1) c.args.id c.in-Some.row.now some (sym c.in-Some.ensures.item)) c.write_row_of_ref.ensures

pub write_row-returns : goal.write_row-returns
write_row-returns t c =
    let tables = tables_of c.args.world.now in
    let some : 0 < length c.args.row.now.regions + length c.args.row.now.args = search rules in
    let given = def-given (region_text tables) (text_within tables c.args.left) c.in-Some.def.now c.args.row.now.regions c.args.row.now.args some in
    rw (sym c.in-Some.ensures.item, given) (search (rules, append_assoc))
