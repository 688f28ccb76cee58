use Rattle.std.proofs.Common.{rules, ◌≡◌, ℕ, ◌+◌, ◌<◌, ◌≤◌, ◌^◌, ◌++◌, [], ◌∷◌, refl, sym, ◌∙◌, ap, subst, Some, slice_get, length, get_or, drop, IfOk, List, arith, of_z, to_z}
use Rattle.std.specs.Int.{w128}
use Rattle.std.specs.List.{AllByRecursion}
use Rattle.std.proofs.lemmas.Option.{get_or_from_slice_get, slice_get_read, slice_get_within}
use Rattle.tm_base.specs.declared.definition.Variant.{Variant}
use Rattle.tm_base.specs.declared.ground.Ground.{out-Ground, Named}
use Rattle.tm_base.specs.declared.ground.Ground.TheOpen.{Ground-F}
use Rattle.tm_base.specs.declared.ground.Ground.TheVariants as ground_is
use Rattle.tm_base.specs.declared.ground.Wrapper.TheVariants as wrapper
use Rattle.tm_base.specs.Expanded.{elements, fields_of, variants_of}
use Rattle.tm_base.specs.Layout.{field_layouts, layout_of, only, size_of, tag_layout}
use Rattle.tm_base.specs.Places.{fields_place, places_of, variant_places}
use Rattle.tm_base.specs.Profiles.{pointer_size}
use Rattle.tm_base.specs.Shapes.{HasSize}
use Rattle.tm_base.specs.Tables.{expanded_in}
use Rattle.tm_base.specs.Worlds.{tables_of}
use Rattle.tm_layout.specs.Made.{EachIs}
use Rattle.tm_layout.proofs.MakingLemmas.{nodes-Array, nodes-row, nodes-Wrap, row-in_form, whole-there}
use Rattle.tm_layout.proofs.NodeLemmas.{all_nodes, nodes_at, nodes_in, row_nodes, row_nodes_at}
use Rattle.tm_niche.specs.Forms.{IsIntegerSize, joined, nonzero_form, one_of, tag_form}
use Rattle.tm_tree.specs.declared.rows.Row.{Row}
use Rattle.tm_layout.specs.LaidOut.{IsLaidOut, places_at}
use Rattle.tm_tree.specs.LaidOut.{AreFieldsWithin, IsSizedDefinition}
use Rattle.tm_tree.specs.Parts.{bare_parts, field_parts, guarded, parts_of, tree_for, union_ways, variant_ways, wrap_parts}
use Rattle.tm_layout.proofs.VariantLemmas.{as_many, few-variants, only-laid_out, only-nodes, struct-is, union-is}
use Rattle.tm_tree.proofs.DefinedLemmas.{bare-made, struct-fields, struct-made, union-fields, union-made}
use Rattle.tm_tree.proofs.EnumLemmas.{enum-made, tag-fits, variant-fields, variant-made}
use Rattle.tm_layout.proofs.LaidOutLemmas.{def-there, definition-of, inside-Array, inside-Wrap, level-of, no-Tuple, wrapped-size, written}
use Rattle.tm_tree.proofs.LevelLemmas.{level-parts, prim-integer, wrapped-parts}
use Rattle.tm_tree.proofs.StepLemmas.{bare-end, bare-next, inside-at, place-inside, place-past, place-there, placed-in, row-end, row-next, row-within, union-way, variants-end, variants-next, ways-end, ways-next}
use Rattle.tm_tree.proofs.TypeLemmas.{tree-is}
use Rattle.tm_tree.proofs.builder.Builder.+building.Goals as goal

-- ---- fields that nothing stands between

pub bare_parts-parts-requires : goal.bare_parts-parts-requires
bare_parts-parts-requires t c =
    let tables = tables_of c.args.self.now.world.now in
    let at = slice_get_read c.args.types.now (length c.args.types.now) c.loop-g.g-index c.g-item.result refl c.loop-g-test.true c.g-item.is in
    let laid = c.requires c.loop-g.g-index c.g-item.result at in
    let below = nodes_at tables c.args.types.now c.loop-g.g-index c.g-item.result c.loop-g-test.true in
    let smaller : 1 + nodes_in tables c.g-item.result < 2 + all_nodes tables c.args.types.now = rw c.g-item.is (omega arith) in
    search rules

pub bare_parts-loop-g-preserved : goal.bare_parts-loop-g-preserved
bare_parts-loop-g-preserved t c =
    let part = expanded_in (tables_of c.args.self.now.world.now) in
    let types = c.args.types.now in
    ap (λ ts. ts ++ bare_parts (elements part (drop (c.loop-g.g-index + 1) types))) c.in_ok-append.ensures
    ∙ bare-next part types c.loop-g.g-index c.g-item.result c.loop-g.parts c.in_ok-parts.field-0 (bare_parts (elements part types)) c.loop-g-test.true c.g-item.is c.in_ok-parts.ensures c.loop-g.invariant

pub bare_parts-returns : goal.bare_parts-returns
bare_parts-returns t c =
    let part = expanded_in (tables_of c.args.self.now.world.now) in
    bare-end part c.args.types.now c.loop-g.g-index c.loop-g.parts (bare_parts (elements part c.args.types.now)) c.loop-g-test.false c.loop-g.invariant

-- ---- definitions

pub defined-bare_parts-requires : goal.defined-bare_parts-requires
defined-bare_parts-requires t c =
    let tables = tables_of c.args.self.now.world.now in
    let types = c.args.types.now in
    let is = c.requires in
    let one = struct-is tables c.args.id c.args.def.now types is.definition c.in-Struct.is in
    let laid = subst (EachIs (IsLaidOut tables)) (sym c.only.ensures) (only-laid_out tables c.args.id c.args.def.now types is.definition one) in
    let few = only-nodes tables types in
    let smaller : 2 + all_nodes tables c.only.result.now < 4 + row_nodes tables types = rw c.only.ensures (omega arith) in
    search rules

pub defined-field_parts-requires : goal.defined-field_parts-requires
defined-field_parts-requires t c =
    let tables = tables_of c.args.self.now.world.now in
    let types = c.args.types.now in
    let begin : c.new-row.result.end ≡ 0 = ap (λ (r : Row). r.end) c.new-row.ensures in
    let fields = subst (λ (n : ℕ). AreFieldsWithin tables c.args.id 0 n c.args.size c.only-in-Struct-2.result.now) (sym begin)
    (subst (AreFieldsWithin tables c.args.id 0 0 c.args.size) (sym c.only-in-Struct-2.ensures) (struct-fields tables c.args.id c.args.size c.args.def.now types c.requires c.in-Struct-2.is c.if-def.false)) in
    let few = only-nodes tables types in
    let smaller : 2 + all_nodes tables c.only-in-Struct-2.result.now < 4 + row_nodes tables types = rw c.only-in-Struct-2.ensures (omega arith) in
    search rules

pub defined-union_ways-requires : goal.defined-union_ways-requires
defined-union_ways-requires t c =
    let tables = tables_of c.args.self.now.world.now in
    let types = c.args.types.now in
    let one = union-is tables c.args.id c.args.def.now types c.requires.definition c.in-Union.is in
    let laid = subst (EachIs (IsLaidOut tables)) (sym c.only-in-Union.ensures) (only-laid_out tables c.args.id c.args.def.now types c.requires.definition one) in
    let inside = subst (λ gs. AllByRecursion (λ l. l.size ≤ c.args.size) (field_layouts (elements (expanded_in tables) gs))) (sym c.only-in-Union.ensures) (union-fields tables c.args.id c.args.size c.args.def.now types c.requires c.in-Union.is) in
    let few = only-nodes tables types in
    let smaller : 2 + all_nodes tables c.only-in-Union.result.now < 4 + row_nodes tables types = rw c.only-in-Union.ensures (omega arith) in
    search rules

pub defined-returns-in_ok-bare_parts-in-Struct : goal.defined-returns-in_ok-bare_parts-in-Struct
defined-returns-in_ok-bare_parts-in-Struct t c =
    let tables = tables_of c.args.self.now.world.now in
    let part = expanded_in tables in
    subst (λ ts. IfOk c.guarded.result (λ parts. parts ≡ ts))
    (ap (λ b. guarded b c.in_ok-bare_parts-in-Struct.field-0) c.is_public.ensures
    ∙ ap (guarded _) (c.in_ok-bare_parts-in-Struct.ensures ∙ ap (λ gs. bare_parts (elements part gs)) c.only.ensures)
    ∙ bare-made tables c.args.id c.args.size c.args.def.now c.args.types.now c.requires c.in-Struct.is c.if-def.true)
    c.guarded.ensures

pub defined-returns-in_ok-parts-in-Struct-2 : goal.defined-returns-in_ok-parts-in-Struct-2
defined-returns-in_ok-parts-in-Struct-2 t c =
    let tables = tables_of c.args.self.now.world.now in
    let part = expanded_in tables in
    let ps = places_at (part (Named c.args.id)) 0 in
    let placed : c.in_ok-parts-in-Struct-2.parts ≡ field_parts c.args.size 0 ps (elements part (only c.args.types.now)) =
    c.in_ok-parts-in-Struct-2.ensures
    ∙ ap (λ (r : Row). r.parts ++ field_parts c.args.size r.end ps (elements part c.only-in-Struct-2.result.now)) c.new-row.ensures
    ∙ ap (λ gs. field_parts c.args.size 0 ps (elements part gs)) c.only-in-Struct-2.ensures in
    subst (λ ts. IfOk c.guarded-in-Struct-2.result (λ parts. parts ≡ ts))
    (ap (λ b. guarded b c.in_ok-parts-in-Struct-2.parts) c.is_public-in-Struct-2.ensures ∙ ap (guarded _) placed
    ∙ struct-made tables c.args.id c.args.size c.args.def.now c.args.types.now c.requires c.in-Struct-2.is c.if-def.false)
    c.guarded-in-Struct-2.ensures

pub defined-returns-in_ok-parts-in-Union : goal.defined-returns-in_ok-parts-in-Union
defined-returns-in_ok-parts-in-Union t c =
    let tables = tables_of c.args.self.now.world.now in
    let part = expanded_in tables in
    let ways : c.in_ok-parts-in-Union.parts ≡ one_of (union_ways c.args.size (elements part (only c.args.types.now))) ∷ [] =
    c.in_ok-parts-in-Union.ensures
    ∙ ap (λ x. x ∷ []) (c.in_ok-one_of-in-Union.ensures ∙ ap one_of (c.in_ok-ways-in-Union.ensures ∙ ap (λ gs. union_ways c.args.size (elements part gs)) c.only-in-Union.ensures)) in
    subst (λ ts. IfOk c.guarded-in-Union.result (λ parts. parts ≡ ts))
    (ap (λ b. guarded b c.in_ok-parts-in-Union.parts) c.is_public-in-Union.ensures ∙ ap (guarded _) ways
    ∙ union-made tables c.args.id c.args.size c.args.def.now c.args.types.now c.requires c.in-Union.is)
    c.guarded-in-Union.ensures

pub defined-returns-in_ok-one_of-in-Enum : goal.defined-returns-in_ok-one_of-in-Enum
defined-returns-in_ok-one_of-in-Enum t c =
    let tables = tables_of c.args.self.now.world.now in
    subst (λ ts. IfOk c.one-in-Enum.result (λ parts. parts ≡ ts))
    (ap (λ x. x ∷ []) (c.in_ok-one_of-in-Enum.ensures ∙ ap one_of c.in_ok-ways-in-Enum.ensures)
    ∙ enum-made tables c.args.id c.args.size c.args.def.now c.args.types.now c.requires c.in-Enum.is)
    c.one-in-Enum.ensures

-- ---- fields in their places

pub field_parts-pad_to-requires : goal.field_parts-pad_to-requires
field_parts-pad_to-requires t c =
    let world = c.args.self.now.world.now in
    let part = expanded_in (tables_of world) in
    let ps = places_at (part (Named c.args.id)) c.args.variant in
    let there = place-there part c.args.size ps c.args.types.now _ c.loop-field.field c.loop-field.row c.index-types-field.result c.requires.fields.count c.loop-field-test.true c.index-types-field.is c.loop-field.invariant in
    let at : c.place-place.result ≡ get_or ps c.loop-field.field 0 = c.place-place.ensures.place (tables_of world) c.args.self.now.made _ c.requires.fields.sound (placed-in (slice_get (places_of (part (Named c.args.id))) c.args.variant) c.loop-field.field _ there) in
    let past = place-past part c.args.size ps c.args.types.now _ c.loop-field.field c.loop-field.row c.index-types-field.result c.requires.fields.count c.loop-field-test.true c.index-types-field.is c.loop-field.invariant in
    omega arith

pub field_parts-parts-requires : goal.field_parts-parts-requires
field_parts-parts-requires t c =
    let tables = tables_of c.args.self.now.world.now in
    let at = slice_get_read c.args.types.now (length c.args.types.now) c.loop-field.field c.index-types-field.result refl c.loop-field-test.true c.index-types-field.is in
    let laid = c.requires.fields.each c.loop-field.field c.index-types-field.result at in
    let below = nodes_at tables c.args.types.now c.loop-field.field c.index-types-field.result c.loop-field-test.true in
    let smaller : 1 + nodes_in tables c.index-types-field.result < 2 + all_nodes tables c.args.types.now = rw c.index-types-field.is (omega arith) in
    search rules

pub field_parts-size-requires : goal.field_parts-size-requires
field_parts-size-requires t c =
    c.requires.fields.each c.loop-field.field c.index-types-field.result
    (slice_get_read c.args.types.now (length c.args.types.now) c.loop-field.field c.index-types-field.result refl c.loop-field-test.true c.index-types-field.is)

pub field_parts-add-requires : goal.field_parts-add-requires
field_parts-add-requires t c =
    let world = c.args.self.now.world.now in
    let part = expanded_in (tables_of world) in
    let ps = places_at (part (Named c.args.id)) c.args.variant in
    let there = place-there part c.args.size ps c.args.types.now _ c.loop-field.field c.loop-field.row c.index-types-field.result c.requires.fields.count c.loop-field-test.true c.index-types-field.is c.loop-field.invariant in
    let at : c.place-place.result ≡ get_or ps c.loop-field.field 0 = c.place-place.ensures.place (tables_of world) c.args.self.now.made _ c.requires.fields.sound (placed-in (slice_get (places_of (part (Named c.args.id))) c.args.variant) c.loop-field.field _ there) in
    let inside = place-inside part c.args.size ps c.args.types.now _ c.loop-field.field c.loop-field.row c.index-types-field.result c.requires.fields.count c.loop-field-test.true c.index-types-field.is c.loop-field.invariant in
    let end : c.pad_to.new.self.end ≡ c.place-place.result = ap (λ (r : Row). r.end) c.in_ok-pad_to.ensures in
    let size : c.size.result ≡ size_of (part c.index-types-field.result) = c.size.ensures in
    let small : c.args.size < 2 ^ 32 = c.ranges.size.fits in
    omega arith

pub field_parts-loop-field-preserved : goal.field_parts-loop-field-preserved
field_parts-loop-field-preserved t c =
    let world = c.args.self.now.world.now in
    let part = expanded_in (tables_of world) in
    let ps = places_at (part (Named c.args.id)) c.args.variant in
    let there = place-there part c.args.size ps c.args.types.now _ c.loop-field.field c.loop-field.row c.index-types-field.result c.requires.fields.count c.loop-field-test.true c.index-types-field.is c.loop-field.invariant in
    let at : c.place-place.result ≡ get_or ps c.loop-field.field 0 = c.place-place.ensures.place (tables_of world) c.args.self.now.made _ c.requires.fields.sound (placed-in (slice_get (places_of (part (Named c.args.id))) c.args.variant) c.loop-field.field _ there) in
    row-next part c.args.size ps c.args.types.now _ c.loop-field.field c.loop-field.row c.index-types-field.result c.requires.fields.count c.loop-field-test.true c.index-types-field.is c.loop-field.invariant
    c.place-place.result c.size.result c.in_ok-parts.field-0 c.add.new.self at c.in_ok-parts.ensures c.size.ensures
    (c.in_ok-add.ensures ∙ ap (λ (r : Row). record { parts = r.parts ++ c.in_ok-parts.field-0; end = r.end + c.size.result }) c.in_ok-pad_to.ensures)

pub field_parts-pad_to-requires-2 : goal.field_parts-pad_to-requires-2
field_parts-pad_to-requires-2 t c =
    let part = expanded_in (tables_of c.args.self.now.world.now) in
    row-within part c.args.size (places_at (part (Named c.args.id)) c.args.variant) c.args.types.now _ c.loop-field.field c.loop-field.row c.loop-field.invariant

pub field_parts-returns : goal.field_parts-returns
field_parts-returns t c =
    let part = expanded_in (tables_of c.args.self.now.world.now) in
    ap (λ (r : Row). r.parts) c.in_ok-pad_to-2.ensures
    ∙ row-end part c.args.size (places_at (part (Named c.args.id)) c.args.variant) c.args.types.now _ c.loop-field.field c.loop-field.row c.loop-field-test.false c.loop-field.invariant

-- ---- named types

pub named-unreachable-requires : goal.named-unreachable-requires
named-unreachable-requires t c =
    let tables = tables_of c.args.self.now.world.now in
    whole-there tables c.args.id (written tables (Named c.args.id) c.requires) (sym c.in_default.ensures.item)

pub named-unreachable-requires-in_default-get : goal.named-unreachable-requires-in_default-get
named-unreachable-requires-in_default-get t c = def-there c.args.self.now.world.now c.args.id c.in-Some.row.now (sym c.in-Some.ensures.item) (sym c.in_default-get.ensures.item)

pub named-defined-requires : goal.named-defined-requires
named-defined-requires t c =
    let world = c.args.self.now.world.now in
    let tables = tables_of world in
    let row = c.in-Some.row.now in
    let at = sym c.in-Some.ensures.item in
    let nodes = nodes-row tables c.args.id row (written tables (Named c.args.id) c.requires) at (row-in_form world c.args.id.0 row at) in
    let smaller : 4 + row_nodes tables c.as_slice.result.now < nodes_in tables (Named c.args.id) = rw (c.as_slice.ensures, nodes) (omega arith) in
    let is = subst (IsSizedDefinition tables c.args.id c.size-size.result c.in-Some-get.def.now) (sym c.as_slice.ensures)
    record { definition = definition-of world c.args.id row c.in-Some-get.def.now c.requires at (sym c.in-Some-get.ensures.item); size = c.size-size.ensures } in
    search rules

-- ---- types

pub parts-primitive-requires : goal.parts-primitive-requires
unfolding layout_of
parts-primitive-requires t c =
    let world = c.args.self.now.world.now in
    c.size.ensures ∙ ap size_of (level-of world c.args.g.now (Ground-F.Prim c.in-Prim.p) c.requires (ap out-Ground c.in-Prim.is ∙ ground_is.outs-Prim c.in-Prim.p))

pub parts-unreachable-requires : goal.parts-unreachable-requires
parts-unreachable-requires t c =
    no-Tuple c.args.self.now.world.now c.args.g.now c.in-Tuple.field-0 c.requires (ap out-Ground c.in-Tuple.is ∙ ground_is.outs-Tuple c.in-Tuple.field-0)

pub parts-array_parts-requires : goal.parts-array_parts-requires
parts-array_parts-requires t c =
    let world = c.args.self.now.world.now in
    let tables = tables_of world in
    let out = ap out-Ground (c.in-Array.is ∙ ap (λ g. ground_is.Array g c.in-Array.count) (sym c.get.ensures)) ∙ ground_is.outs-Array c.get.result.now c.in-Array.count in
    let nodes = nodes-Array tables c.args.g.now c.get.result.now c.in-Array.count (written tables c.args.g.now c.requires) out in
    let smaller : 2 + nodes_in tables c.get.result.now < 1 + nodes_in tables c.args.g.now = rw nodes (omega arith) in
    let laid = inside-Array world c.args.g.now c.get.result.now c.in-Array.count c.requires out in
    search rules

pub array_parts-parts-requires : goal.array_parts-parts-requires
array_parts-parts-requires t c =
    let tables = tables_of c.args.self.now.world.now in
    let smaller : 1 + nodes_in tables c.args.element.now < 2 + nodes_in tables c.args.element.now = omega arith in
    search rules

pub parts-nonzero_tree-requires : goal.parts-nonzero_tree-requires
unfolding layout_of
parts-nonzero_tree-requires t c =
    let world = c.args.self.now.world.now in
    let p = c.in-NonZero.field-0 in
    let size = c.size-in-NonZero.ensures ∙ ap size_of (level-of world c.args.g.now (Ground-F.NonZero p) c.requires (ap out-Ground c.in-NonZero.is ∙ ground_is.outs-NonZero p)) in
    subst IsIntegerSize (sym size) (prim-integer world.profile p)

pub parts-parts-requires : goal.parts-parts-requires
parts-parts-requires t c =
    let world = c.args.self.now.world.now in
    let tables = tables_of world in
    let out = ap out-Ground (c.in-Wrap.is ∙ ap (λ g. ground_is.Wrap c.in-Wrap.wrapper g) (sym c.get-in_default.ensures)) ∙ ground_is.outs-Wrap c.in-Wrap.wrapper c.get-in_default.result.now in
    let nodes = nodes-Wrap tables c.args.g.now c.get-in_default.result.now c.in-Wrap.wrapper c.in_default.not-PhantomData (written tables c.args.g.now c.requires) out in
    let smaller : 1 + nodes_in tables c.get-in_default.result.now < 1 + nodes_in tables c.args.g.now = rw nodes (omega arith) in
    let laid = inside-Wrap world c.args.g.now c.get-in_default.result.now c.in-Wrap.wrapper c.in_default.not-PhantomData c.requires out in
    search rules

pub parts-wrapped-requires : goal.parts-wrapped-requires
unfolding tree_for
parts-wrapped-requires t c =
    let world = c.args.self.now.world.now in
    let part = expanded_in (tables_of world) in
    let k = c.get-in_default.result.now in
    let out = ap out-Ground (c.in-Wrap.is ∙ ap (λ g. ground_is.Wrap c.in-Wrap.wrapper g) (sym c.get-in_default.ensures)) ∙ ground_is.outs-Wrap c.in-Wrap.wrapper k in
    let laid = inside-Wrap world c.args.g.now k c.in-Wrap.wrapper c.in_default.not-PhantomData c.requires out in
    let size = c.size-in_default.ensures ∙ wrapped-size world c.args.g.now k c.in-Wrap.wrapper c.in_default.not-PhantomData c.requires out in
    let exact = tree-is world k laid.sound in (
      pointer_size world.profile,
      subst (λ ts. HasSize (pointer_size world.profile) c.size-in_default.result (joined ts)) (sym c.in_ok-parts-in_default.ensures)
          (subst (λ (n : ℕ). HasSize (pointer_size world.profile) n (tree_for (part k))) (sym size) exact.sized),
    )

pub parts-returns-in-Prim : goal.parts-returns-in-Prim
unfolding parts_of
parts-returns-in-Prim t c =
    subst (λ ts. IfOk c.primitive.result (λ parts. parts ≡ ts))
    (level-parts c.args.self.now.world.now c.args.g.now (Ground-F.Prim c.in-Prim.p) c.requires (ap out-Ground c.in-Prim.is ∙ ground_is.outs-Prim c.in-Prim.p)) c.primitive.ensures

pub parts-returns-in-Never : goal.parts-returns-in-Never
unfolding parts_of
parts-returns-in-Never t c =
    subst (λ ts. IfOk c.one.result (λ parts. parts ≡ ts)) (level-parts c.args.self.now.world.now c.args.g.now Ground-F.Never c.requires (ap out-Ground c.in-Never.is ∙ ground_is.outs-Never)) c.one.ensures

pub parts-returns-in-Unit : goal.parts-returns-in-Unit
unfolding parts_of
parts-returns-in-Unit t c = c.new.ensures ∙ level-parts c.args.self.now.world.now c.args.g.now Ground-F.Unit c.requires (ap out-Ground c.in-Unit.is ∙ ground_is.outs-Unit)

pub parts-returns-in-Array : goal.parts-returns-in-Array
unfolding parts_of
parts-returns-in-Array t c =
    let out = ap out-Ground (c.in-Array.is ∙ ap (λ g. ground_is.Array g c.in-Array.count) (sym c.get.ensures)) ∙ ground_is.outs-Array c.get.result.now c.in-Array.count in
    subst (λ ts. IfOk c.array_parts.result (λ parts. parts ≡ ts)) (level-parts c.args.self.now.world.now c.args.g.now (Ground-F.Array c.get.result.now c.in-Array.count) c.requires out) c.array_parts.ensures

pub parts-returns-in_ok-nonzero_tree-in-NonZero : goal.parts-returns-in_ok-nonzero_tree-in-NonZero
unfolding parts_of layout_of
parts-returns-in_ok-nonzero_tree-in-NonZero t c =
    let world = c.args.self.now.world.now in
    let p = c.in-NonZero.field-0 in
    let out = ap out-Ground c.in-NonZero.is ∙ ground_is.outs-NonZero p in
    let size = c.size-in-NonZero.ensures ∙ ap size_of (level-of world c.args.g.now (Ground-F.NonZero p) c.requires out) in
    subst (λ ts. IfOk c.one-in-NonZero.result (λ parts. parts ≡ ts))
    (ap (λ x. x ∷ []) (c.in_ok-nonzero_tree-in-NonZero.ensures.form ∙ ap nonzero_form size) ∙ level-parts world c.args.g.now (Ground-F.NonZero p) c.requires out) c.one-in-NonZero.ensures

pub parts-returns-in-PhantomData : goal.parts-returns-in-PhantomData
unfolding parts_of
parts-returns-in-PhantomData t c =
    let out = ap out-Ground (c.in-Wrap.is ∙ ap (λ w. ground_is.Wrap w c.in-Wrap.argument) c.in-PhantomData.is) ∙ ground_is.outs-Wrap wrapper.PhantomData c.in-Wrap.argument in
    c.new-in-PhantomData.ensures ∙ level-parts c.args.self.now.world.now c.args.g.now (Ground-F.Wrap wrapper.PhantomData c.in-Wrap.argument) c.requires out

pub parts-returns-in_ok-parts-in_default : goal.parts-returns-in_ok-parts-in_default
parts-returns-in_ok-parts-in_default t c =
    let world = c.args.self.now.world.now in
    let part = expanded_in (tables_of world) in
    let k = c.get-in_default.result.now in
    let w = c.in-Wrap.wrapper in
    let out = ap out-Ground (c.in-Wrap.is ∙ ap (λ g. ground_is.Wrap w g) (sym c.get-in_default.ensures)) ∙ ground_is.outs-Wrap w k in
    let size = c.size-in_default.ensures ∙ wrapped-size world c.args.g.now k w c.in_default.not-PhantomData c.requires out in
    subst (λ ts. IfOk c.wrapped.result (λ parts. parts ≡ ts))
    (ap (λ (n : ℕ). wrap_parts w n c.in_ok-parts-in_default.field-0) size ∙ ap (wrap_parts w (size_of (part k))) c.in_ok-parts-in_default.ensures
    ∙ wrapped-parts world c.args.g.now k w c.in_default.not-PhantomData c.requires out) c.wrapped.ensures

pub parts-returns-in-Ref : goal.parts-returns-in-Ref
unfolding parts_of
parts-returns-in-Ref t c =
    subst (λ ts. IfOk c.one-in-Ref.result (λ parts. parts ≡ ts)) (level-parts c.args.self.now.world.now c.args.g.now (Ground-F.Ref c.in-Ref.id) c.requires (ap out-Ground c.in-Ref.is ∙ ground_is.outs-Ref c.in-Ref.id)) c.one-in-Ref.ensures

-- ---- the ways of a union

pub union_ways-parts-requires : goal.union_ways-parts-requires
union_ways-parts-requires t c =
    let tables = tables_of c.args.self.now.world.now in
    let at = slice_get_read c.args.types.now (length c.args.types.now) c.loop-g.g-index c.g-item.result refl c.loop-g-test.true c.g-item.is in
    let laid = c.requires.laid_out c.loop-g.g-index c.g-item.result at in
    let below = nodes_at tables c.args.types.now c.loop-g.g-index c.g-item.result c.loop-g-test.true in
    let smaller : 1 + nodes_in tables c.g-item.result < 2 + all_nodes tables c.args.types.now = rw c.g-item.is (omega arith) in
    search rules

pub union_ways-size-requires : goal.union_ways-size-requires
union_ways-size-requires t c =
    c.requires.laid_out c.loop-g.g-index c.g-item.result (slice_get_read c.args.types.now (length c.args.types.now) c.loop-g.g-index c.g-item.result refl c.loop-g-test.true c.g-item.is)

pub union_ways-pad_to-requires : goal.union_ways-pad_to-requires
union_ways-pad_to-requires t c =
    let part = expanded_in (tables_of c.args.self.now.world.now) in
    let inside = inside-at part c.args.size c.args.types.now c.loop-g.g-index c.g-item.result c.loop-g-test.true c.g-item.is c.requires.inside in
    let begin : c.new-way.result.end ≡ 0 = ap (λ (r : Row). r.end) c.new-way.ensures in
    let end : c.add.new.self.end ≡ c.new-way.result.end + c.size.result = ap (λ (r : Row). r.end) c.in_ok-add.ensures in
    let size : c.size.result ≡ size_of (part c.g-item.result) = c.size.ensures in
    omega arith

pub union_ways-loop-g-preserved : goal.union_ways-loop-g-preserved
union_ways-loop-g-preserved t c =
    let part = expanded_in (tables_of c.args.self.now.world.now) in
    let types = c.args.types.now in
    let way = union-way c.args.size c.in_ok-parts.field-0 c.size.result c.in_ok-in_turn.field-0 c.new-way.result c.add.new.self c.pad_to.new.self c.new-way.ensures c.in_ok-add.ensures c.in_ok-pad_to.ensures c.in_ok-in_turn.ensures in
    ap (λ ts. ts ++ union_ways c.args.size (elements part (drop (c.loop-g.g-index + 1) types))) c.in_ok-push.ensures
    ∙ ways-next part c.args.size types c.loop-g.g-index c.g-item.result c.loop-g.ways (union_ways c.args.size (elements part types)) c.in_ok-in_turn.field-0 c.in_ok-parts.field-0 c.size.result
    c.loop-g-test.true c.g-item.is c.in_ok-parts.ensures c.size.ensures way c.loop-g.invariant

pub union_ways-returns : goal.union_ways-returns
union_ways-returns t c =
    let part = expanded_in (tables_of c.args.self.now.world.now) in
    ways-end part c.args.size c.args.types.now c.loop-g.g-index c.loop-g.ways (union_ways c.args.size (elements part c.args.types.now)) c.loop-g-test.false c.loop-g.invariant

-- ---- the ways of an enum

pub variant_ways-unreachable-requires : goal.variant_ways-unreachable-requires
variant_ways-unreachable-requires t c =
    let many = as_many c.args.def.now.variants c.args.types.now c.requires.is.definition.shaped in
    let long = ap (λ (vs : List Variant). length vs) c.as_slice-variant-items.ensures in
    let below : c.loop-number.number < length c.args.types.now = omega (arith, c.loop-number-test.true) in
    let h = c.in_default.ensures in
    search rules

pub variant_ways-tag-requires-clause-fits : goal.variant_ways-tag-requires-clause-fits
variant_ways-tag-requires-clause-fits t c =
    let world = c.args.self.now.world.now in
    let tables = tables_of world in
    let part = expanded_in tables in
    let def = c.args.def.now in
    let types = c.args.types.now in
    let i = c.loop-number.number in
    let v = c.variant-item.result in
    let gs = c.in-Some.fields.now in
    let at_v = subst (λ (vs : List Variant). slice_get vs i ≡ Some v) c.as_slice-variant-items.ensures
    (slice_get_read c.as_slice-variant-items.result.now (length c.as_slice-variant-items.result.now) i v refl c.loop-number-test.true c.variant-item.is) in
    let at_gs = slice_get_read types (length types) i gs refl c.in-Some.ensures.lookup.3.0 c.in-Some.ensures.lookup.1 in
    let fits = tag-fits tables c.args.id c.args.size def types c.requires.is c.requires.kind i v gs at_v at_gs in
    search rules

pub variant_ways-overflow_cast-number : goal.variant_ways-overflow_cast-number
variant_ways-overflow_cast-number t c =
    let few = few-variants c.args.self.now.world.now.profile c.args.def.now c.requires.is.definition.in_form in
    let long = ap (λ (vs : List Variant). length vs) c.as_slice-variant-items.ensures in
    let below : c.loop-number.number < 2 ^ 32 = omega (arith, c.loop-number-test.true) in
    search rules

pub variant_ways-field_parts-requires : goal.variant_ways-field_parts-requires
variant_ways-field_parts-requires t c =
    let world = c.args.self.now.world.now in
    let tables = tables_of world in
    let part = expanded_in tables in
    let def = c.args.def.now in
    let types = c.args.types.now in
    let i = c.loop-number.number in
    let v = c.variant-item.result in
    let gs = c.in-Some.fields.now in
    let at_v = subst (λ (vs : List Variant). slice_get vs i ≡ Some v) c.as_slice-variant-items.ensures
    (slice_get_read c.as_slice-variant-items.result.now (length c.as_slice-variant-items.result.now) i v refl c.loop-number-test.true c.variant-item.is) in
    let at_gs = slice_get_read types (length types) i gs refl c.in-Some.ensures.lookup.3.0 c.in-Some.ensures.lookup.1 in
    let fields = variant-fields tables c.args.id c.args.size def types c.requires.is c.requires.kind i v gs at_v at_gs in
    let end : c.in_ok-tag.tag.end ≡ (tag_layout world.profile def.repr.tag).size = ap (λ (r : Row). r.end) c.in_ok-tag.ensures in
    let of_slice = subst (λ (n : ℕ). AreFieldsWithin tables c.args.id i n c.args.size c.as_slice.result.now) (sym end)
    (subst (AreFieldsWithin tables c.args.id i (tag_layout world.profile def.repr.tag).size c.args.size) (sym c.as_slice.ensures) fields) in
    let below = row_nodes_at tables types i gs c.in-Some.ensures.lookup.3.0 in
    let same : c.as_slice.result.now ≡ get_or types i gs = c.as_slice.ensures ∙ c.in-Some.ensures.lookup.1 in
    let smaller : 2 + all_nodes tables c.as_slice.result.now < 3 + row_nodes tables types = rw same (omega arith) in
    search rules

pub variant_ways-loop-number-preserved : goal.variant_ways-loop-number-preserved
variant_ways-loop-number-preserved t c =
    let world = c.args.self.now.world.now in
    let tables = tables_of world in
    let part = expanded_in tables in
    let def = c.args.def.now in
    let types = c.args.types.now in
    let i = c.loop-number.number in
    let v = c.variant-item.result in
    let gs = c.in-Some.fields.now in
    let at_v = subst (λ (vs : List Variant). slice_get vs i ≡ Some v) c.as_slice-variant-items.ensures
    (slice_get_read c.as_slice-variant-items.result.now (length c.as_slice-variant-items.result.now) i v refl c.loop-number-test.true c.variant-item.is) in
    let at_gs = slice_get_read types (length types) i gs refl c.in-Some.ensures.lookup.3.0 c.in-Some.ensures.lookup.1 in
    let begin = fields_place world.profile def.repr (variants_of part def.variants types) in
    let tag = (tag_layout world.profile def.repr.tag).size in
    let all = variant_ways world.profile def.repr begin c.args.size (variants_of part def.variants types) in
    let read : to_z w128 (of_z w128 v.value) ≡ v.value = search rules in
    let below : i < length def.variants = slice_get_within def.variants i v at_v in
    let made : c.in_ok-way.way ≡ tag_form world.profile tag v.value ∷ field_parts c.args.size tag (variant_places world.profile def.repr begin (field_layouts (fields_of part v.fields gs))) (fields_of part v.fields gs) =
    c.in_ok-way.ensures
    ∙ ap (λ (r : Row). r.parts ++ field_parts c.args.size r.end (places_at (part (Named c.args.id)) i) (elements part c.as_slice.result.now)) c.in_ok-tag.ensures
    ∙ ap (λ z. tag_form world.profile tag z ∷ field_parts c.args.size tag (places_at (part (Named c.args.id)) i) (elements part c.as_slice.result.now)) read
    ∙ ap (λ hs. tag_form world.profile tag v.value ∷ field_parts c.args.size tag (places_at (part (Named c.args.id)) i) (elements part hs)) c.as_slice.ensures
    ∙ ap (λ ts. tag_form world.profile tag v.value ∷ ts) (variant-made tables c.args.id c.args.size def types c.requires.is c.requires.kind i v gs at_v at_gs) in
    ap (λ ts. ts ++ variant_ways world.profile def.repr begin c.args.size (variants_of part (drop (i + 1) def.variants) (drop (i + 1) types))) c.in_ok-push.ensures
    ∙ variants-next part world.profile def.repr begin c.args.size def.variants types i v gs c.loop-number.ways all c.in_ok-in_turn.field-0 below (sym (get_or_from_slice_get def.variants i v v at_v)) at_gs
    (c.in_ok-in_turn.ensures ∙ ap joined made) c.loop-number.invariant

pub variant_ways-returns : goal.variant_ways-returns
variant_ways-returns t c =
    let world = c.args.self.now.world.now in
    let part = expanded_in (tables_of world) in
    let def = c.args.def.now in
    let types = c.args.types.now in
    let begin = fields_place world.profile def.repr (variants_of part def.variants types) in
    let past = subst (λ (vs : List Variant). length vs ≤ c.loop-number.number) c.as_slice-variant-items.ensures c.loop-number-test.false in
    variants-end part world.profile def.repr begin c.args.size def.variants types c.loop-number.number c.loop-number.ways (variant_ways world.profile def.repr begin c.args.size (variants_of part def.variants types)) past c.loop-number.invariant
