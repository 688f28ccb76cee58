use Rattle.std.proofs.Common.{◌≡◌, ◌≤◌, ◌+◌, ◌<◌, ◌∙◌, ap, arith, length, refl, rules, sym, subst}
use Rattle.std.proofs.lemmas.Option.{slice_get_read}
use Rattle.tm_base.specs.declared.ground.Ground.{out-Ground, Named}
use Rattle.tm_base.specs.declared.ground.Ground.TheOpen.{Ground-F}
use Rattle.tm_base.specs.declared.ground.Ground.TheVariants as ground_is
use Rattle.tm_base.specs.declared.ground.Wrapper.TheVariants as wrapper
use Rattle.tm_base.specs.Parts.{some_part}
use Rattle.tm_base.specs.Worlds.{IsTypeOver, tables_of}
use Rattle.tm_layout.specs.Made.{EachIs}
use Rattle.tm_layout.proofs.MakingLemmas.{nodes-Array, nodes-row, nodes-Tuple, nodes-Wrap, row-in_form, whole-there}
use Rattle.tm_layout.proofs.NodeLemmas.{all_nodes, nodes_at, nodes_in, row_nodes, row_nodes_at}
use Rattle.tm_refs.specs.Leaves.{leaf_of, variant_leaf}
use Rattle.tm_refs.proofs.AddedLemmas.{added-none, added-one, added-same}
use Rattle.tm_refs.proofs.LevelLemmas.{leaf-Array, leaf-none, leaf-Ref, leaf-row, leaf-Tuple, leaf-Wrap, written-out}
use Rattle.tm_refs.proofs.PartLemmas.{over-Array, over-row, over-Tuple, over-Wrap, reference-below}
use Rattle.tm_refs.proofs.leaves.+leaves.Goals as goal

pub add_row-unreachable-requires : goal.add_row-unreachable-requires
add_row-unreachable-requires t c = whole-there (tables_of c.args.world.now) c.args.id (written-out c.args.world.now (Named c.args.id) c.requires.over) (sym c.in_default.ensures.item)

pub add_row-add_variants-requires : goal.add_row-add_variants-requires
add_row-add_variants-requires t c =
    let tables = tables_of c.args.world.now in
    let at = sym c.in-Some.ensures.item in
    let nodes = nodes-row tables c.args.id c.in-Some.row.now (written-out c.args.world.now (Named c.args.id) c.requires.over) at (row-in_form c.args.world.now c.args.id.0 c.in-Some.row.now at) in
    let smaller : 3 + row_nodes tables c.as_slice.result.now < nodes_in tables (Named c.args.id) = rw (c.as_slice.ensures, nodes) (omega arith) in
    let over = subst (EachIs (EachIs (IsTypeOver tables))) (sym c.as_slice.ensures) (over-row c.args.world.now c.args.id c.in-Some.row.now c.requires.over at) in
    search rules

pub add_row-returns : goal.add_row-returns
add_row-returns t c =
    let tables = tables_of c.args.world.now in
    let at = sym c.in-Some.ensures.item in
    added-same _ (leaf_of tables (Named c.args.id)) c.args.leaves.now _
    (λ x. ap (λ types. variant_leaf tables types x) c.as_slice.ensures ∙ leaf-row c.args.world.now c.args.id c.in-Some.row.now c.requires.over at x) c.add_variants.ensures

pub add_type-bounds-leaves-id : goal.add_type-bounds-leaves-id
add_type-bounds-leaves-id t c =
    let below : c.in-Ref.id.0 < length c.args.world.now.refs =
    reference-below c.args.world.now c.args.g.now c.in-Ref.id c.requires.over (ap out-Ground c.in-Ref.is ∙ ground_is.outs-Ref c.in-Ref.id)
    in
    let few : length c.args.world.now.refs ≤ 64 = c.args.world.now.few_refs in
    omega (arith, c.requires.room)

pub add_type-add_types-requires : goal.add_type-add_types-requires
add_type-add_types-requires t c =
    let tables = tables_of c.args.world.now in
    let out = ap out-Ground (c.in-Tuple.is ∙ ap ground_is.Tuple (sym c.as_slice.ensures)) ∙ ground_is.outs-Tuple c.as_slice.result.now in
    let nodes = nodes-Tuple tables c.args.g.now c.as_slice.result.now (written-out c.args.world.now c.args.g.now c.requires.over) out in
    let smaller : 2 + all_nodes tables c.as_slice.result.now < 1 + nodes_in tables c.args.g.now = rw nodes (omega arith) in
    let over = over-Tuple c.args.world.now c.args.g.now c.as_slice.result.now c.requires.over out in
    search rules

pub add_type-add_type-requires : goal.add_type-add_type-requires
add_type-add_type-requires t c =
    let tables = tables_of c.args.world.now in
    let out = ap out-Ground (c.in-Array.is ∙ ap (λ g. ground_is.Array g c.in-Array.field-1) (sym c.get.ensures)) ∙ ground_is.outs-Array c.get.result.now c.in-Array.field-1 in
    let nodes = nodes-Array tables c.args.g.now c.get.result.now c.in-Array.field-1 (written-out c.args.world.now c.args.g.now c.requires.over) out in
    let smaller : 1 + nodes_in tables c.get.result.now < 1 + nodes_in tables c.args.g.now = rw nodes (omega arith) in
    let over = over-Array c.args.world.now c.args.g.now c.get.result.now c.in-Array.field-1 c.requires.over out in
    search rules

pub add_type-add_type-requires-in_default : goal.add_type-add_type-requires-in_default
add_type-add_type-requires-in_default t c =
    let tables = tables_of c.args.world.now in
    let out = ap out-Ground (c.in-Wrap.is ∙ ap (λ g. ground_is.Wrap c.in-Wrap.wrapper g) (sym c.get-in_default.ensures)) ∙ ground_is.outs-Wrap c.in-Wrap.wrapper c.get-in_default.result.now in
    let nodes = nodes-Wrap tables c.args.g.now c.get-in_default.result.now c.in-Wrap.wrapper c.in_default.not-PhantomData (written-out c.args.world.now c.args.g.now c.requires.over) out in
    let smaller : 1 + nodes_in tables c.get-in_default.result.now < 1 + nodes_in tables c.args.g.now = rw nodes (omega arith) in
    let over = over-Wrap c.args.world.now c.args.g.now c.get-in_default.result.now c.in-Wrap.wrapper c.in_default.not-PhantomData c.requires.over out in
    search rules

pub add_type-returns-in-Ref : goal.add_type-returns-in-Ref
add_type-returns-in-Ref t c =
    let out = ap out-Ground c.in-Ref.is ∙ ground_is.outs-Ref c.in-Ref.id in
    let below : c.in-Ref.id.0 < length c.args.world.now.refs = reference-below c.args.world.now c.args.g.now c.in-Ref.id c.requires.over out in
    let few : length c.args.world.now.refs ≤ 64 = c.args.world.now.few_refs in
    added-same _ (leaf_of (tables_of c.args.world.now) c.args.g.now) c.args.leaves.now _ (leaf-Ref c.args.world.now c.args.g.now c.in-Ref.id c.requires.over out)
    (added-one c.args.leaves.now c.in-Ref.id.0 (omega (arith, c.requires.room)))

pub add_type-returns-in-Tuple : goal.add_type-returns-in-Tuple
add_type-returns-in-Tuple t c =
    let out = ap out-Ground (c.in-Tuple.is ∙ ap ground_is.Tuple (sym c.as_slice.ensures)) ∙ ground_is.outs-Tuple c.as_slice.result.now in
    added-same _ (leaf_of (tables_of c.args.world.now) c.args.g.now) c.args.leaves.now _ (leaf-Tuple c.args.world.now c.args.g.now c.as_slice.result.now c.requires.over out) c.add_types.ensures

pub add_type-returns-in-Array : goal.add_type-returns-in-Array
add_type-returns-in-Array t c =
    let out = ap out-Ground (c.in-Array.is ∙ ap (λ g. ground_is.Array g c.in-Array.field-1) (sym c.get.ensures)) ∙ ground_is.outs-Array c.get.result.now c.in-Array.field-1 in
    added-same _ (leaf_of (tables_of c.args.world.now) c.args.g.now) c.args.leaves.now _ (leaf-Array c.args.world.now c.args.g.now c.get.result.now c.in-Array.field-1 c.requires.over out)
    c.add_type.ensures

pub add_type-returns-in-PhantomData : goal.add_type-returns-in-PhantomData
unfolding some_part
add_type-returns-in-PhantomData t c =
    let out = ap out-Ground (c.in-Wrap.is ∙ ap (λ w. ground_is.Wrap w c.in-Wrap.argument) c.in-PhantomData.is) ∙ ground_is.outs-Wrap wrapper.PhantomData c.in-Wrap.argument in
    added-none (leaf_of (tables_of c.args.world.now) c.args.g.now) c.args.leaves.now
    (leaf-none c.args.world.now c.args.g.now (Ground-F.Wrap wrapper.PhantomData c.in-Wrap.argument) c.requires.over out (λ x. refl))

pub add_type-returns-in_default : goal.add_type-returns-in_default
add_type-returns-in_default t c =
    let out = ap out-Ground (c.in-Wrap.is ∙ ap (λ g. ground_is.Wrap c.in-Wrap.wrapper g) (sym c.get-in_default.ensures)) ∙ ground_is.outs-Wrap c.in-Wrap.wrapper c.get-in_default.result.now in
    added-same _ (leaf_of (tables_of c.args.world.now) c.args.g.now) c.args.leaves.now _
    (leaf-Wrap c.args.world.now c.args.g.now c.get-in_default.result.now c.in-Wrap.wrapper c.in_default.not-PhantomData c.requires.over out) c.add_type-in_default.ensures

pub add_type-returns-in-Prim : goal.add_type-returns-in-Prim
unfolding some_part
add_type-returns-in-Prim t c =
    added-none (leaf_of (tables_of c.args.world.now) c.args.g.now) c.args.leaves.now
    (leaf-none c.args.world.now c.args.g.now (Ground-F.Prim c.in-Prim.field-0) c.requires.over (ap out-Ground c.in-Prim.is ∙ ground_is.outs-Prim c.in-Prim.field-0) (λ x. refl))

pub add_type-returns-in-Never : goal.add_type-returns-in-Never
unfolding some_part
add_type-returns-in-Never t c =
    added-none (leaf_of (tables_of c.args.world.now) c.args.g.now) c.args.leaves.now
    (leaf-none c.args.world.now c.args.g.now Ground-F.Never c.requires.over (ap out-Ground c.in-Never.is ∙ ground_is.outs-Never) (λ x. refl))

pub add_type-returns-in-Unit : goal.add_type-returns-in-Unit
unfolding some_part
add_type-returns-in-Unit t c =
    added-none (leaf_of (tables_of c.args.world.now) c.args.g.now) c.args.leaves.now
    (leaf-none c.args.world.now c.args.g.now Ground-F.Unit c.requires.over (ap out-Ground c.in-Unit.is ∙ ground_is.outs-Unit) (λ x. refl))

pub add_type-returns-in-NonZero : goal.add_type-returns-in-NonZero
unfolding some_part
add_type-returns-in-NonZero t c =
    added-none (leaf_of (tables_of c.args.world.now) c.args.g.now) c.args.leaves.now
    (leaf-none c.args.world.now c.args.g.now (Ground-F.NonZero c.in-NonZero.field-0) c.requires.over (ap out-Ground c.in-NonZero.is ∙ ground_is.outs-NonZero c.in-NonZero.field-0) (λ x. refl))

pub add_types-add_type-requires : goal.add_types-add_type-requires
add_types-add_type-requires t c =
    let tables = tables_of c.args.world.now in
    let at = slice_get_read c.args.types.now (length c.args.types.now) c.loop-g.g-index c.g-item.result refl c.loop-g-test.true c.g-item.is in
    let over = c.requires.over c.loop-g.g-index c.g-item.result at in
    let below = nodes_at tables c.args.types.now c.loop-g.g-index c.g-item.result c.loop-g-test.true in
    let smaller : 1 + nodes_in tables c.g-item.result < 2 + all_nodes tables c.args.types.now = rw c.g-item.is (omega arith) in
    let room : length c.loop-g.leaves ≡ 64 = c.loop-g.auto.leaves ∙ c.requires.room in
    search rules

pub add_variants-add_types-requires : goal.add_variants-add_types-requires
add_variants-add_types-requires t c =
    let tables = tables_of c.args.world.now in
    let at = slice_get_read c.args.variants.now (length c.args.variants.now) c.loop-types.types-index c.types-item.result refl c.loop-types-test.true c.types-item.is in
    let over = subst (EachIs (IsTypeOver tables)) (sym c.as_slice.ensures) (c.requires.over c.loop-types.types-index c.types-item.result at) in
    let below = row_nodes_at tables c.args.variants.now c.loop-types.types-index c.types-item.result c.loop-types-test.true in
    let smaller : 2 + all_nodes tables c.as_slice.result.now < 3 + row_nodes tables c.args.variants.now = rw (c.as_slice.ensures, c.types-item.is) (omega arith) in
    let room : length c.loop-types.leaves ≡ 64 = c.loop-types.auto.leaves ∙ c.requires.room in
    search rules
