use Rattle.std.proofs.Common.{rules, ◌≡◌, ℕ, ◌+◌, ◌-◌, ◌<◌, ◌≤◌, ◌^◌, ◌||◌, refl, sym, ◌∙◌, ap, subst, true, false, Some, slice_get, length, get_or, take, drop, List, arith, of_z, to_z}
use Rattle.std.specs.Int.{w128}
use Rattle.std.specs.List.{list_all}
use Rattle.std.proofs.lemmas.Bool.{eqb-true}
use Rattle.std.proofs.lemmas.Option.{get_or_from_slice_get, slice_get-get_or, slice_get_read, slice_get_within}
use Rattle.tm_base.specs.declared.definition.Variant.{Variant}
use Rattle.tm_base.specs.declared.ground.Ground.{out-Ground, Named}
use Rattle.tm_base.specs.declared.ground.Ground.TheOpen.{Ground-F}
use Rattle.tm_base.specs.declared.ground.Ground.TheVariants as ground_is
use Rattle.tm_base.specs.declared.ground.Wrapper.TheVariants as wrapper
use Rattle.tm_base.specs.Expanded.{elements, fields_of, variants_of}
use Rattle.tm_base.specs.Layout.{field_layouts, layout_of, prim_size, size_of, tag_layout}
use Rattle.tm_base.specs.Places.{fields_place, places_of, variant_places}
use Rattle.tm_base.specs.Profiles.{pointer_size}
use Rattle.tm_base.specs.Tables.{expanded_in}
use Rattle.tm_base.specs.ValidTest.{is_free}
use Rattle.tm_base.specs.Worlds.{tables_of}
use Rattle.tm_layout.specs.Made.{EachIs}
use Rattle.tm_layout.proofs.MakingLemmas.{nodes-Array, nodes-row, nodes-Wrap, row-in_form, whole-there}
use Rattle.tm_layout.proofs.NodeLemmas.{all_nodes, nodes_at, nodes_in, row_nodes, row_nodes_at}
use Rattle.tm_check.specs.Begins.{begins, fields_begin, ref_begins, some_field_begins, takes_besides}
use Rattle.tm_layout.specs.LaidOut.{AreFieldsOf, IsDefinition, IsLaidOut, places_at}
use Rattle.tm_check.specs.Numbers.{nonzero_begins, tag_begins}
use Rattle.tm_check.specs.Runs.{word_of}
use Rattle.tm_layout.proofs.EnumFieldLemmas.{variant-fields}
use Rattle.tm_layout.proofs.VariantLemmas.{as_many, few-variants, only-laid_out, only-nodes, union-is}
use Rattle.tm_check.proofs.DefinedLemmas.{struct-begins, struct-fields, union-begins}
use Rattle.tm_check.proofs.EnumLemmas.{enum-begins, variant-same}
use Rattle.tm_layout.proofs.LaidOutLemmas.{def-there, definition-of, inside-Array, inside-Wrap, level-of, wrapped-size, written}
use Rattle.tm_check.proofs.LevelLemmas.{level-begins, prim-small, wrapped-begins}
use Rattle.tm_check.proofs.StepLemmas.{field-next, fields-end, first-closed, first-fails, made-so, placed-in, second-closed, second-fails, some-end, some-next, third-decides, times-step, times-stop, unmade, variants-end, variants-next, way-open}
use Rattle.tm_check.proofs.matcher.Matcher.+matching.Goals as goal
use Rattle.tm_check.proofs.matcher.Matcher.+matching.Goals.{array-then-loop-left-test+else-not-is_empty, array-else-loop-left-test, fields-then-not-is_free-via-then-not-is_free, fields-then-not-is_free-via-else-not-is_free+then-not-begins, some_field-else-begins-via-then-begins+else-is_free, some_field-else-begins-via-else-begins, some_variant-else-tag-via-then-tag+else-fields, some_variant-else-tag-via-else-tag}

-- ---- arrays

pub array-loop-left-preserved : goal.array-loop-left-preserved
array-loop-left-preserved g t c =
    let test = begins (g.M.RefTest.test c.args.self.now.refs.now) c.args.self.now.keep_private (expanded_in (tables_of c.args.self.now.world.now) c.args.element.now) in
    times-step c.loop-left.left (size_of (expanded_in (tables_of c.args.self.now.world.now) c.args.element.now)) c.size-size.result test (word_of c.loop-left.rest) (word_of c.front.result) (word_of c.behind-rest.result) c.begins.result _
    c.loop-left-test.true c.size-size.ensures c.front.ensures c.behind-rest.ensures c.begins.ensures c.if-not-begins.false c.loop-left.invariant

pub array-returns-else-left-eq0 : goal.array-returns-else-left-eq0
array-returns-else-left-eq0 g t c =
    let test = begins (g.M.RefTest.test c.args.self.now.refs.now) c.args.self.now.keep_private (expanded_in (tables_of c.args.self.now.world.now) c.args.element.now) in
    elim c.loop-left-test.branch [
      | array-then-loop-left-test+else-not-is_empty w ↦
          times-stop c.loop-left.left (size_of (expanded_in (tables_of c.args.self.now.world.now) c.args.element.now)) test (word_of c.loop-left.rest) c.begins-else-left-eq0.result _
          c.if-left-eq0.false (eqb-true (length (word_of c.loop-left.rest)) 0 (sym w.is_empty.ensures ∙ w.if-not-is_empty.false)) c.begins-else-left-eq0.ensures c.loop-left.invariant
      | array-else-loop-left-test w ↦ let less = w.loop-left-test.false in absurd (c.if-left-eq0.false (omega (arith, less)))
    ]

-- ---- types

pub begins-primitive-requires : goal.begins-primitive-requires
unfolding layout_of
begins-primitive-requires g t c =
    c.size.ensures ∙ ap size_of (level-of c.args.self.now.world.now c.args.g.now (Ground-F.Prim c.in-Prim.p) c.requires (ap out-Ground c.in-Prim.is ∙ ground_is.outs-Prim c.in-Prim.p))

pub begins-nonzero-requires : goal.begins-nonzero-requires
unfolding layout_of
begins-nonzero-requires g t c =
    let world = c.args.self.now.world.now in
    let p = c.in-NonZero.field-0 in
    let size : c.size-in-NonZero.result ≡ prim_size world.profile p = c.size-in-NonZero.ensures ∙ ap size_of (level-of world c.args.g.now (Ground-F.NonZero p) c.requires (ap out-Ground c.in-NonZero.is ∙ ground_is.outs-NonZero p)) in
    record { few = subst (λ (n : ℕ). n ≤ 16) (sym size) (prim-small world.profile p) }

pub begins-array-requires : goal.begins-array-requires
begins-array-requires g t c κs within =
    let world = c.args.self.now.world.now in
    let tables = tables_of world in
    let out = ap out-Ground (c.in-Array.is ∙ ap (λ g. ground_is.Array g c.in-Array.count) (sym c.get.ensures)) ∙ ground_is.outs-Array c.get.result.now c.in-Array.count in
    let nodes = nodes-Array tables c.args.g.now c.get.result.now c.in-Array.count (written tables c.args.g.now c.requires) out in
    let smaller : 2 + nodes_in tables c.get.result.now < 1 + nodes_in tables c.args.g.now = rw nodes (omega arith) in
    let laid = inside-Array world c.args.g.now c.get.result.now c.in-Array.count c.requires out in
    search rules

pub begins-begins-requires : goal.begins-begins-requires
begins-begins-requires g t c κs within =
    let world = c.args.self.now.world.now in
    let tables = tables_of world in
    let k = c.get-else-takes_besides.result.now in
    let out = ap out-Ground (c.in-Wrap.is ∙ ap (λ g. ground_is.Wrap c.in-Wrap.wrapper g) (sym c.get-else-takes_besides.ensures)) ∙ ground_is.outs-Wrap c.in-Wrap.wrapper k in
    let nodes = nodes-Wrap tables c.args.g.now k c.in-Wrap.wrapper c.in_default.not-PhantomData (written tables c.args.g.now c.requires) out in
    let smaller : 1 + nodes_in tables k < 1 + nodes_in tables c.args.g.now = rw nodes (omega arith) in
    let laid = inside-Wrap world c.args.g.now k c.in-Wrap.wrapper c.in_default.not-PhantomData c.requires out in
    search rules

pub begins-returns-in-Never : goal.begins-returns-in-Never
unfolding begins
begins-returns-in-Never g t c =
    level-begins c.args.self.now.world.now (g.M.RefTest.test c.args.self.now.refs.now) c.args.self.now.keep_private c.args.g.now Ground-F.Never (word_of c.args.run) c.requires (ap out-Ground c.in-Never.is ∙ ground_is.outs-Never)

pub begins-returns-in-Tuple : goal.begins-returns-in-Tuple
unfolding begins
begins-returns-in-Tuple g t c =
    level-begins c.args.self.now.world.now (g.M.RefTest.test c.args.self.now.refs.now) c.args.self.now.keep_private c.args.g.now (Ground-F.Tuple c.in-Tuple.field-0) (word_of c.args.run) c.requires
    (ap out-Ground c.in-Tuple.is ∙ ground_is.outs-Tuple c.in-Tuple.field-0)

pub begins-returns-in-Unit : goal.begins-returns-in-Unit
unfolding begins
begins-returns-in-Unit g t c =
    level-begins c.args.self.now.world.now (g.M.RefTest.test c.args.self.now.refs.now) c.args.self.now.keep_private c.args.g.now Ground-F.Unit (word_of c.args.run) c.requires (ap out-Ground c.in-Unit.is ∙ ground_is.outs-Unit)

pub begins-returns-in-Prim : goal.begins-returns-in-Prim
unfolding begins
begins-returns-in-Prim g t c =
    c.primitive.ensures
    ∙ level-begins c.args.self.now.world.now (g.M.RefTest.test c.args.self.now.refs.now) c.args.self.now.keep_private c.args.g.now (Ground-F.Prim c.in-Prim.p) (word_of c.args.run) c.requires (ap out-Ground c.in-Prim.is ∙ ground_is.outs-Prim c.in-Prim.p)

pub begins-returns-in-NonZero : goal.begins-returns-in-NonZero
unfolding begins layout_of
begins-returns-in-NonZero g t c =
    let world = c.args.self.now.world.now in
    let p = c.in-NonZero.field-0 in
    let out = ap out-Ground c.in-NonZero.is ∙ ground_is.outs-NonZero p in
    let size : c.size-in-NonZero.result ≡ prim_size world.profile p = c.size-in-NonZero.ensures ∙ ap size_of (level-of world c.args.g.now (Ground-F.NonZero p) c.requires out) in
    c.nonzero.ensures ∙ ap (λ (n : ℕ). nonzero_begins world.profile n (word_of c.args.run)) size
    ∙ level-begins world (g.M.RefTest.test c.args.self.now.refs.now) c.args.self.now.keep_private c.args.g.now (Ground-F.NonZero p) (word_of c.args.run) c.requires out

pub begins-returns-in-Ref : goal.begins-returns-in-Ref
unfolding begins layout_of
begins-returns-in-Ref g t c =
    let world = c.args.self.now.world.now in
    let A = g.M.RefTest.test c.args.self.now.refs.now in
    let out = ap out-Ground c.in-Ref.is ∙ ground_is.outs-Ref c.in-Ref.id in
    let size : c.size-in-Ref.result ≡ pointer_size world.profile = c.size-in-Ref.ensures ∙ ap size_of (level-of world c.args.g.now (Ground-F.Ref c.in-Ref.id) c.requires out) in
    c.reference.ensures ∙ ap (λ (n : ℕ). ref_begins A n c.in-Ref.id.0 (word_of c.args.run)) size
    ∙ level-begins world A c.args.self.now.keep_private c.args.g.now (Ground-F.Ref c.in-Ref.id) (word_of c.args.run) c.requires out

pub begins-returns-in-Array : goal.begins-returns-in-Array
unfolding begins
begins-returns-in-Array g t c =
    let out = ap out-Ground (c.in-Array.is ∙ ap (λ g. ground_is.Array g c.in-Array.count) (sym c.get.ensures)) ∙ ground_is.outs-Array c.get.result.now c.in-Array.count in
    c.array.ensures
    ∙ level-begins c.args.self.now.world.now (g.M.RefTest.test c.args.self.now.refs.now) c.args.self.now.keep_private c.args.g.now (Ground-F.Array c.get.result.now c.in-Array.count) (word_of c.args.run) c.requires out

pub begins-returns-in-PhantomData : goal.begins-returns-in-PhantomData
unfolding begins
begins-returns-in-PhantomData g t c =
    let out = ap out-Ground (c.in-Wrap.is ∙ ap (λ w. ground_is.Wrap w c.in-Wrap.argument) c.in-PhantomData.is) ∙ ground_is.outs-Wrap wrapper.PhantomData c.in-Wrap.argument in
    level-begins c.args.self.now.world.now (g.M.RefTest.test c.args.self.now.refs.now) c.args.self.now.keep_private c.args.g.now (Ground-F.Wrap wrapper.PhantomData c.in-Wrap.argument) (word_of c.args.run) c.requires out

pub begins-returns-then-takes_besides : goal.begins-returns-then-takes_besides
begins-returns-then-takes_besides g t c =
    let world = c.args.self.now.world.now in
    let A = g.M.RefTest.test c.args.self.now.refs.now in
    let keep = c.args.self.now.keep_private in
    let k = c.in-Wrap.argument in
    let w = c.in-Wrap.wrapper in
    let v = word_of c.args.run in
    let part = expanded_in (tables_of world) in
    let out = ap out-Ground c.in-Wrap.is ∙ ground_is.outs-Wrap w k in
    let size = c.size-in_default.ensures ∙ wrapped-size world c.args.g.now k w c.in_default.not-PhantomData c.requires out in
    let takes : takes_besides w (size_of (part k)) v ≡ true = ap (λ (n : ℕ). takes_besides w n v) (sym size) ∙ sym c.takes_besides.ensures ∙ c.if-takes_besides.true in
    c.if-takes_besides.true ∙ ap (λ b. b || begins A keep (part k) v) (sym takes) ∙ wrapped-begins world A keep c.args.g.now k w v c.in_default.not-PhantomData c.requires out

pub begins-returns-else-takes_besides : goal.begins-returns-else-takes_besides
begins-returns-else-takes_besides g t c =
    let world = c.args.self.now.world.now in
    let A = g.M.RefTest.test c.args.self.now.refs.now in
    let keep = c.args.self.now.keep_private in
    let k = c.get-else-takes_besides.result.now in
    let w = c.in-Wrap.wrapper in
    let v = word_of c.args.run in
    let part = expanded_in (tables_of world) in
    let out = ap out-Ground (c.in-Wrap.is ∙ ap (λ g. ground_is.Wrap w g) (sym c.get-else-takes_besides.ensures)) ∙ ground_is.outs-Wrap w k in
    let size = c.size-in_default.ensures ∙ wrapped-size world c.args.g.now k w c.in_default.not-PhantomData c.requires out in
    let takes : takes_besides w (size_of (part k)) v ≡ false = ap (λ (n : ℕ). takes_besides w n v) (sym size) ∙ sym c.takes_besides.ensures ∙ c.if-takes_besides.false in
    c.begins.ensures ∙ ap (λ b. b || begins A keep (part k) v) (sym takes) ∙ wrapped-begins world A keep c.args.g.now k w v c.in_default.not-PhantomData c.requires out

-- ---- definitions

pub defined-fields-requires : goal.defined-fields-requires
defined-fields-requires g t c κs within =
    let tables = tables_of c.args.self.now.world.now in
    let types = c.args.types.now in
    let fields = subst (AreFieldsOf tables c.args.id 0) (sym c.only.ensures) (struct-fields tables c.args.id c.args.def.now types c.requires c.in-Struct.is) in
    let few = only-nodes tables types in
    let smaller : 2 + all_nodes tables c.only.result.now < 4 + row_nodes tables types = rw c.only.ensures (omega arith) in
    search rules

pub defined-some_field-requires : goal.defined-some_field-requires
defined-some_field-requires g t c κs within =
    let tables = tables_of c.args.self.now.world.now in
    let types = c.args.types.now in
    let laid = subst (EachIs (IsLaidOut tables)) (sym c.only-then-may_be_made-2.ensures) (only-laid_out tables c.args.id c.args.def.now types c.requires (union-is tables c.args.id c.args.def.now types c.requires c.in-Union.is)) in
    let few = only-nodes tables types in
    let smaller : 2 + all_nodes tables c.only-then-may_be_made-2.result.now < 4 + row_nodes tables types = rw c.only-then-may_be_made-2.ensures (omega arith) in
    search rules

pub defined-returns-then-may_be_made : goal.defined-returns-then-may_be_made
defined-returns-then-may_be_made g t c =
    let tables = tables_of c.args.self.now.world.now in
    let part = expanded_in tables in
    let A = g.M.RefTest.test c.args.self.now.refs.now in
    let keep = c.args.self.now.keep_private in
    let v = word_of c.args.run in
    made-so c.fields.result c.may_be_made.result _ _ (c.fields.ensures ∙ ap (λ gs. fields_begin A keep 0 (places_at (part (Named c.args.id)) 0) (elements part gs) v) c.only.ensures) c.may_be_made.ensures c.if-may_be_made.true
    ∙ sym (struct-begins tables c.args.id c.args.def.now c.args.types.now c.requires A keep v c.in-Struct.is)

pub defined-returns-else-may_be_made : goal.defined-returns-else-may_be_made
defined-returns-else-may_be_made g t c =
    unmade c.may_be_made.result _ _ c.may_be_made.ensures c.if-may_be_made.false
    ∙ sym (struct-begins (tables_of c.args.self.now.world.now) c.args.id c.args.def.now c.args.types.now c.requires (g.M.RefTest.test c.args.self.now.refs.now) c.args.self.now.keep_private (word_of c.args.run) c.in-Struct.is)

pub defined-returns-then-may_be_made-2 : goal.defined-returns-then-may_be_made-2
defined-returns-then-may_be_made-2 g t c =
    let tables = tables_of c.args.self.now.world.now in
    let part = expanded_in tables in
    let A = g.M.RefTest.test c.args.self.now.refs.now in
    let keep = c.args.self.now.keep_private in
    let v = word_of c.args.run in
    made-so c.some_field.result c.may_be_made-in-Union.result _ _ (c.some_field.ensures ∙ ap (λ gs. some_field_begins A keep (elements part gs) v) c.only-then-may_be_made-2.ensures) c.may_be_made-in-Union.ensures c.if-may_be_made-2.true
    ∙ sym (union-begins tables c.args.id c.args.def.now c.args.types.now c.requires A keep v c.in-Union.is)

pub defined-returns-else-may_be_made-2 : goal.defined-returns-else-may_be_made-2
defined-returns-else-may_be_made-2 g t c =
    unmade c.may_be_made-in-Union.result _ _ c.may_be_made-in-Union.ensures c.if-may_be_made-2.false
    ∙ sym (union-begins (tables_of c.args.self.now.world.now) c.args.id c.args.def.now c.args.types.now c.requires (g.M.RefTest.test c.args.self.now.refs.now) c.args.self.now.keep_private (word_of c.args.run) c.in-Union.is)

pub defined-returns-in-Enum : goal.defined-returns-in-Enum
defined-returns-in-Enum g t c =
    c.some_variant.ensures
    ∙ sym (enum-begins (tables_of c.args.self.now.world.now) c.args.id c.args.def.now c.args.types.now c.requires c.in-Enum.is (g.M.RefTest.test c.args.self.now.refs.now) c.args.self.now.keep_private (word_of c.args.run))

pub named-unreachable-requires : goal.named-unreachable-requires
named-unreachable-requires g t c =
    let tables = tables_of c.args.self.now.world.now in
    whole-there tables c.args.id (written tables (Named c.args.id) c.requires) (sym c.in_default.ensures.item)

pub named-unreachable-requires-in_default-get : goal.named-unreachable-requires-in_default-get
named-unreachable-requires-in_default-get g t c = def-there c.args.self.now.world.now c.args.id c.in-Some.row.now (sym c.in-Some.ensures.item) (sym c.in_default-get.ensures.item)

pub named-defined-requires : goal.named-defined-requires
named-defined-requires g t c κs within =
    let world = c.args.self.now.world.now in
    let tables = tables_of world in
    let row = c.in-Some.row.now in
    let at = sym c.in-Some.ensures.item in
    let nodes = nodes-row tables c.args.id row (written tables (Named c.args.id) c.requires) at (row-in_form world c.args.id.0 row at) in
    let smaller : 4 + row_nodes tables c.as_slice.result.now < nodes_in tables (Named c.args.id) = rw (c.as_slice.ensures, nodes) (omega arith) in
    let is = subst (IsDefinition tables c.args.id c.in-Some-get.def.now) (sym c.as_slice.ensures)
    (definition-of world c.args.id row c.in-Some-get.def.now c.requires at (sym c.in-Some-get.ensures.item)) in
    search rules

-- ---- fields in their places

pub fields-size-size-requires : goal.fields-size-size-requires
fields-size-size-requires g t c =
    c.requires.each c.loop-field.field c.index-types-field.result
    (slice_get_read c.args.types.now (length c.args.types.now) c.loop-field.field c.index-types-field.result refl c.loop-field-test.true c.index-types-field.is)

pub fields-begins-requires : goal.fields-begins-requires
fields-begins-requires g t c κs within =
    let tables = tables_of c.args.self.now.world.now in
    let at = slice_get_read c.args.types.now (length c.args.types.now) c.loop-field.field c.index-types-field.result refl c.loop-field-test.true c.index-types-field.is in
    let laid = c.requires.each c.loop-field.field c.index-types-field.result at in
    let below = nodes_at tables c.args.types.now c.loop-field.field c.index-types-field.result c.loop-field-test.true in
    let smaller : 1 + nodes_in tables c.index-types-field.result < 2 + all_nodes tables c.args.types.now = rw c.index-types-field.is (omega arith) in
    search rules

pub fields-returns-then-not-is_free : goal.fields-returns-then-not-is_free
fields-returns-then-not-is_free g t c =
    let world = c.args.self.now.world.now in
    let part = expanded_in (tables_of world) in
    let A = g.M.RefTest.test c.args.self.now.refs.now in
    let keep = c.args.self.now.keep_private in
    let types = c.args.types.now in
    let i = c.loop-field.field in
    let item = c.index-types-field.result in
    let ps = places_at (part (Named c.args.id)) c.args.variant in
    let w = word_of c.loop-field.rest in
    let s = size_of (part item) in
    let p = get_or ps i 0 in
    let count : length ps ≡ length types = c.requires.count in
    let there : slice_get ps i ≡ Some p = slice_get-get_or ps i 0 (omega (arith, count, c.loop-field-test.true)) in
    let placed : c.place.result ≡ p = c.place.ensures.place (tables_of world) c.args.self.now.made p c.requires.sound (placed-in (slice_get (places_of (part (Named c.args.id))) c.args.variant) i p there) in
    let gap : c.saturating_sub-gap.result ≡ p - c.loop-field.end = c.saturating_sub-gap.ensures ∙ ap (λ (n : ℕ). n - c.loop-field.end) (c.from-place.ensures ∙ placed) in
    let next = field-next part A keep ps types i item c.loop-field.end w count c.loop-field-test.true c.index-types-field.is in
    let free = list_all is_free (take (p - c.loop-field.end) w) in
    let here = begins A keep (part item) (take s (drop (p - c.loop-field.end) w)) in
    let behind : word_of c.behind-behind.result ≡ drop (p - c.loop-field.end) w = c.behind-behind.ensures ∙ ap (λ (n : ℕ). drop n w) gap in
    let freed : c.is_free.result ≡ free = c.is_free.ensures ∙ ap (list_all is_free) (c.front.ensures ∙ ap (λ (n : ℕ). take n w) gap) in
    elim c.then-not-is_free.branch [
      | fields-then-not-is_free-via-then-not-is_free v ↦ first-fails free here _ _ _ next c.loop-field.invariant (sym freed ∙ v.if-not-is_free.true)
      | fields-then-not-is_free-via-else-not-is_free+then-not-begins v ↦
          let begun : v.begins.result ≡ here = v.begins.ensures ∙ ap (begins A keep (part item)) (v.front-else-not-is_free.ensures ∙ ap (take c.size-size.result) behind ∙ ap (λ (n : ℕ). take n (drop (p - c.loop-field.end) w)) c.size-size.ensures) in
          second-fails free here _ _ _ next c.loop-field.invariant (sym freed ∙ v.if-not-is_free.false) (sym begun ∙ v.if-not-begins.true)
    ]

pub fields-loop-field-preserved : goal.fields-loop-field-preserved
fields-loop-field-preserved g t c =
    let world = c.args.self.now.world.now in
    let part = expanded_in (tables_of world) in
    let A = g.M.RefTest.test c.args.self.now.refs.now in
    let keep = c.args.self.now.keep_private in
    let types = c.args.types.now in
    let i = c.loop-field.field in
    let item = c.index-types-field.result in
    let ps = places_at (part (Named c.args.id)) c.args.variant in
    let w = word_of c.loop-field.rest in
    let s = size_of (part item) in
    let p = get_or ps i 0 in
    let count : length ps ≡ length types = c.requires.count in
    let there : slice_get ps i ≡ Some p = slice_get-get_or ps i 0 (omega (arith, count, c.loop-field-test.true)) in
    let placed : c.place.result ≡ p = c.place.ensures.place (tables_of world) c.args.self.now.made p c.requires.sound (placed-in (slice_get (places_of (part (Named c.args.id))) c.args.variant) i p there) in
    let gap : c.saturating_sub-gap.result ≡ p - c.loop-field.end = c.saturating_sub-gap.ensures ∙ ap (λ (n : ℕ). n - c.loop-field.end) (c.from-place.ensures ∙ placed) in
    let next = field-next part A keep ps types i item c.loop-field.end w count c.loop-field-test.true c.index-types-field.is in
    let free = list_all is_free (take (p - c.loop-field.end) w) in
    let here = begins A keep (part item) (take s (drop (p - c.loop-field.end) w)) in
    let behind : word_of c.behind-behind.result ≡ drop (p - c.loop-field.end) w = c.behind-behind.ensures ∙ ap (λ (n : ℕ). drop n w) gap in
    let freed : c.is_free.result ≡ free = c.is_free.ensures ∙ ap (list_all is_free) (c.front.ensures ∙ ap (λ (n : ℕ). take n w) gap) in
    let begun : c.begins.result ≡ here = c.begins.ensures ∙ ap (begins A keep (part item)) (c.front-else-not-is_free.ensures ∙ ap (take c.size-size.result) behind ∙ ap (λ (n : ℕ). take n (drop (p - c.loop-field.end) w)) c.size-size.ensures) in
    let end : c.from-place.result + c.from.result ≡ p + s =
    ap (λ (n : ℕ). n + c.from.result) (c.from-place.ensures ∙ placed) ∙ ap (λ (n : ℕ). p + n) (c.from.ensures ∙ c.size-size.ensures) in
    let left : word_of c.behind-rest.result ≡ drop s (drop (p - c.loop-field.end) w) = c.behind-rest.ensures ∙ ap (drop c.size-size.result) behind ∙ ap (λ (n : ℕ). drop n (drop (p - c.loop-field.end) w)) c.size-size.ensures in
    ap (λ (n : ℕ). fields_begin A keep n (drop (i + 1) ps) (elements part (drop (i + 1) types)) (word_of c.behind-rest.result)) end
    ∙ ap (fields_begin A keep (p + s) (drop (i + 1) ps) (elements part (drop (i + 1) types))) left
    ∙ third-decides free here _ _ _ next c.loop-field.invariant (sym freed ∙ c.if-not-is_free.false) (sym begun ∙ c.if-not-begins.false)

pub fields-returns : goal.fields-returns
fields-returns g t c =
    let part = expanded_in (tables_of c.args.self.now.world.now) in
    c.is_free-2.ensures
    ∙ sym (fields-end part (g.M.RefTest.test c.args.self.now.refs.now) c.args.self.now.keep_private (places_at (part (Named c.args.id)) c.args.variant) c.args.types.now c.loop-field.field c.loop-field.end (word_of c.loop-field.rest) c.loop-field-test.false)
    ∙ c.loop-field.invariant

-- ---- the fields of a union

pub some_field-size-size-requires : goal.some_field-size-size-requires
some_field-size-size-requires g t c =
    c.requires c.loop-g.g-index c.g-item.result (slice_get_read c.args.types.now (length c.args.types.now) c.loop-g.g-index c.g-item.result refl c.loop-g-test.true c.g-item.is)

pub some_field-begins-requires : goal.some_field-begins-requires
some_field-begins-requires g t c κs within =
    let tables = tables_of c.args.self.now.world.now in
    let at = slice_get_read c.args.types.now (length c.args.types.now) c.loop-g.g-index c.g-item.result refl c.loop-g-test.true c.g-item.is in
    let laid = c.requires c.loop-g.g-index c.g-item.result at in
    let below = nodes_at tables c.args.types.now c.loop-g.g-index c.g-item.result c.loop-g-test.true in
    let smaller : 1 + nodes_in tables c.g-item.result < 2 + all_nodes tables c.args.types.now = rw c.g-item.is (omega arith) in
    search rules

pub some_field-returns-then-is_free : goal.some_field-returns-then-is_free
some_field-returns-then-is_free g t c =
    let part = expanded_in (tables_of c.args.self.now.world.now) in
    let A = g.M.RefTest.test c.args.self.now.refs.now in
    let keep = c.args.self.now.keep_private in
    let w = word_of c.args.run in
    let s = size_of (part c.g-item.result) in
    let next = some-next part A keep c.args.types.now c.loop-g.g-index c.g-item.result w c.loop-g-test.true c.g-item.is in
    let here = begins A keep (part c.g-item.result) (take s w) in
    let free = list_all is_free (drop s w) in
    let begun : c.begins.result ≡ here = c.begins.ensures ∙ ap (begins A keep (part c.g-item.result)) (c.front.ensures ∙ ap (λ (n : ℕ). take n w) c.size-size.ensures) in
    let freed : c.is_free.result ≡ free = c.is_free.ensures ∙ ap (list_all is_free) (c.behind.ensures ∙ ap (λ (n : ℕ). drop n w) c.size-size.ensures) in
    way-open here free _ _ _ next c.loop-g.invariant (sym begun ∙ c.if-begins.true) (sym freed ∙ c.if-is_free.true)

pub some_field-loop-g-preserved : goal.some_field-loop-g-preserved
some_field-loop-g-preserved g t c =
    let part = expanded_in (tables_of c.args.self.now.world.now) in
    let A = g.M.RefTest.test c.args.self.now.refs.now in
    let keep = c.args.self.now.keep_private in
    let w = word_of c.args.run in
    let s = size_of (part c.g-item.result) in
    let next = some-next part A keep c.args.types.now c.loop-g.g-index c.g-item.result w c.loop-g-test.true c.g-item.is in
    let here = begins A keep (part c.g-item.result) (take s w) in
    let free = list_all is_free (drop s w) in
    let begun : c.begins.result ≡ here = c.begins.ensures ∙ ap (begins A keep (part c.g-item.result)) (c.front.ensures ∙ ap (λ (n : ℕ). take n w) c.size-size.ensures) in
    elim c.else-begins.branch [
      | some_field-else-begins-via-then-begins+else-is_free v ↦
          let freed : v.is_free.result ≡ free = v.is_free.ensures ∙ ap (list_all is_free) (v.behind.ensures ∙ ap (λ (n : ℕ). drop n w) c.size-size.ensures) in
          second-closed here free _ _ _ next c.loop-g.invariant (sym begun ∙ v.if-begins.true) (sym freed ∙ v.if-is_free.false)
      | some_field-else-begins-via-else-begins v ↦ first-closed here free _ _ _ next c.loop-g.invariant (sym begun ∙ v.if-begins.false)
    ]

pub some_field-returns : goal.some_field-returns
some_field-returns g t c =
    sym (some-end (expanded_in (tables_of c.args.self.now.world.now)) (g.M.RefTest.test c.args.self.now.refs.now) c.args.self.now.keep_private c.args.types.now c.loop-g.g-index (word_of c.args.run) c.loop-g-test.false)
    ∙ c.loop-g.invariant

-- ---- the variants of an enum

pub some_variant-unreachable-requires : goal.some_variant-unreachable-requires
some_variant-unreachable-requires g t c =
    let many = as_many c.args.def.now.variants c.args.types.now c.requires.is.shaped in
    let long = ap (λ (vs : List Variant). length vs) c.as_slice-variant-items.ensures in
    let below : c.loop-number.number < length c.args.types.now = omega (arith, c.loop-number-test.true) in
    let h = c.in_default.ensures in
    search rules

pub some_variant-overflow_cast-number : goal.some_variant-overflow_cast-number
some_variant-overflow_cast-number g t c =
    let few = few-variants c.args.self.now.world.now.profile c.args.def.now c.requires.is.in_form in
    let long = ap (λ (vs : List Variant). length vs) c.as_slice-variant-items.ensures in
    let below : c.loop-number.number < 2 ^ 32 = omega (arith, c.loop-number-test.true) in
    search rules

pub some_variant-fields-requires : goal.some_variant-fields-requires
some_variant-fields-requires g t c κs within =
    let world = c.args.self.now.world.now in
    let tables = tables_of world in
    let part = expanded_in tables in
    let def = c.args.def.now in
    let types = c.args.types.now in
    let i = c.loop-number.number in
    let v = c.variant-item.result in
    let gs = c.in-Some.fields.now in
    let at_v = subst (λ (vs : List Variant). slice_get vs i ≡ Some v) c.as_slice-variant-items.ensures
    (slice_get_read c.as_slice-variant-items.result.now (length c.as_slice-variant-items.result.now) i v refl c.loop-number-test.true c.variant-item.is) in
    let at_gs = slice_get_read types (length types) i gs refl c.in-Some.ensures.lookup.3.0 c.in-Some.ensures.lookup.1 in
    let fields = subst (AreFieldsOf tables c.args.id i) (sym c.as_slice.ensures) (variant-fields tables c.args.id def types c.requires.is c.requires.kind i v gs at_v at_gs) in
    let below = row_nodes_at tables types i gs c.in-Some.ensures.lookup.3.0 in
    let same : c.as_slice.result.now ≡ get_or types i gs = c.as_slice.ensures ∙ c.in-Some.ensures.lookup.1 in
    let smaller : 2 + all_nodes tables c.as_slice.result.now < 3 + row_nodes tables types = rw same (omega arith) in
    search rules

pub some_variant-returns-then-fields : goal.some_variant-returns-then-fields
some_variant-returns-then-fields g t c =
    let world = c.args.self.now.world.now in
    let tables = tables_of world in
    let part = expanded_in tables in
    let def = c.args.def.now in
    let types = c.args.types.now in
    let i = c.loop-number.number in
    let v = c.variant-item.result in
    let gs = c.in-Some.fields.now in
    let at_v = subst (λ (vs : List Variant). slice_get vs i ≡ Some v) c.as_slice-variant-items.ensures
    (slice_get_read c.as_slice-variant-items.result.now (length c.as_slice-variant-items.result.now) i v refl c.loop-number-test.true c.variant-item.is) in
    let at_gs = slice_get_read types (length types) i gs refl c.in-Some.ensures.lookup.3.0 c.in-Some.ensures.lookup.1 in
    let A = g.M.RefTest.test c.args.self.now.refs.now in
    let keep = c.args.self.now.keep_private in
    let w = word_of c.args.run in
    let begin = fields_place world.profile def.repr (variants_of part def.variants types) in
    let n = (tag_layout world.profile def.repr.tag).size in
    let below : i < length def.variants = slice_get_within def.variants i v at_v in
    let next = variants-next part A keep world.profile def.repr begin def.variants types i v gs w below (sym (get_or_from_slice_get def.variants i v v at_v)) at_gs in
    let here = tag_begins world.profile n v.value (take n w) in
    let placed = fields_begin A keep n (variant_places world.profile def.repr begin (field_layouts (fields_of part v.fields gs))) (fields_of part v.fields gs) (drop n w) in
    let read : to_z w128 (of_z w128 v.value) ≡ v.value = search rules in
    let tagged : c.tag.result ≡ here =
    c.tag.ensures ∙ ap (λ z. tag_begins world.profile c.tag_size-size.result z (word_of c.front-front.result)) read
    ∙ ap (tag_begins world.profile c.tag_size-size.result v.value) (c.front-front.ensures ∙ ap (λ (k : ℕ). take k w) c.tag_size-size.ensures) ∙ ap (λ (k : ℕ). tag_begins world.profile k v.value (take n w)) c.tag_size-size.ensures in
    let set : c.fields.result ≡ placed =
    c.fields.ensures ∙ ap (λ (k : ℕ). fields_begin A keep k (places_at (part (Named c.args.id)) i) (elements part c.as_slice.result.now) (word_of c.behind-behind.result)) c.tag_size-size.ensures
    ∙ ap (λ hs. fields_begin A keep n (places_at (part (Named c.args.id)) i) (elements part hs) (word_of c.behind-behind.result)) c.as_slice.ensures
    ∙ ap (fields_begin A keep n (places_at (part (Named c.args.id)) i) (elements part gs)) (c.behind-behind.ensures ∙ ap (λ (k : ℕ). drop k w) c.tag_size-size.ensures)
    ∙ variant-same tables c.args.id def types c.requires.is c.requires.kind i v gs at_v at_gs A keep n (drop n w) in
    way-open here placed _ _ _ next c.loop-number.invariant (sym tagged ∙ c.if-tag.true) (sym set ∙ c.if-fields.true)

pub some_variant-loop-number-preserved : goal.some_variant-loop-number-preserved
some_variant-loop-number-preserved g t c =
    let world = c.args.self.now.world.now in
    let tables = tables_of world in
    let part = expanded_in tables in
    let def = c.args.def.now in
    let types = c.args.types.now in
    let i = c.loop-number.number in
    let v = c.variant-item.result in
    let gs = c.in-Some.fields.now in
    let at_v = subst (λ (vs : List Variant). slice_get vs i ≡ Some v) c.as_slice-variant-items.ensures
    (slice_get_read c.as_slice-variant-items.result.now (length c.as_slice-variant-items.result.now) i v refl c.loop-number-test.true c.variant-item.is) in
    let at_gs = slice_get_read types (length types) i gs refl c.in-Some.ensures.lookup.3.0 c.in-Some.ensures.lookup.1 in
    let A = g.M.RefTest.test c.args.self.now.refs.now in
    let keep = c.args.self.now.keep_private in
    let w = word_of c.args.run in
    let begin = fields_place world.profile def.repr (variants_of part def.variants types) in
    let n = (tag_layout world.profile def.repr.tag).size in
    let below : i < length def.variants = slice_get_within def.variants i v at_v in
    let next = variants-next part A keep world.profile def.repr begin def.variants types i v gs w below (sym (get_or_from_slice_get def.variants i v v at_v)) at_gs in
    let here = tag_begins world.profile n v.value (take n w) in
    let placed = fields_begin A keep n (variant_places world.profile def.repr begin (field_layouts (fields_of part v.fields gs))) (fields_of part v.fields gs) (drop n w) in
    let read : to_z w128 (of_z w128 v.value) ≡ v.value = search rules in
    let tagged : c.tag.result ≡ here =
    c.tag.ensures ∙ ap (λ z. tag_begins world.profile c.tag_size-size.result z (word_of c.front-front.result)) read
    ∙ ap (tag_begins world.profile c.tag_size-size.result v.value) (c.front-front.ensures ∙ ap (λ (k : ℕ). take k w) c.tag_size-size.ensures) ∙ ap (λ (k : ℕ). tag_begins world.profile k v.value (take n w)) c.tag_size-size.ensures in
    elim c.else-tag.branch [
      | some_variant-else-tag-via-then-tag+else-fields x ↦
          let set : x.fields.result ≡ placed =
          x.fields.ensures ∙ ap (λ (k : ℕ). fields_begin A keep k (places_at (part (Named c.args.id)) i) (elements part x.as_slice.result.now) (word_of c.behind-behind.result)) c.tag_size-size.ensures
          ∙ ap (λ hs. fields_begin A keep n (places_at (part (Named c.args.id)) i) (elements part hs) (word_of c.behind-behind.result)) x.as_slice.ensures
          ∙ ap (fields_begin A keep n (places_at (part (Named c.args.id)) i) (elements part gs)) (c.behind-behind.ensures ∙ ap (λ (k : ℕ). drop k w) c.tag_size-size.ensures)
          ∙ variant-same tables c.args.id def types c.requires.is c.requires.kind i v gs at_v at_gs A keep n (drop n w) in
          second-closed here placed _ _ _ next c.loop-number.invariant (sym tagged ∙ x.if-tag.true) (sym set ∙ x.if-fields.false)
      | some_variant-else-tag-via-else-tag x ↦ first-closed here placed _ _ _ next c.loop-number.invariant (sym tagged ∙ x.if-tag.false)
    ]

pub some_variant-returns : goal.some_variant-returns
some_variant-returns g t c =
    let world = c.args.self.now.world.now in
    let part = expanded_in (tables_of world) in
    let def = c.args.def.now in
    let types = c.args.types.now in
    let past = subst (λ (vs : List Variant). length vs ≤ c.loop-number.number) c.as_slice-variant-items.ensures c.loop-number-test.false in
    sym (variants-end part (g.M.RefTest.test c.args.self.now.refs.now) c.args.self.now.keep_private world.profile def.repr (fields_place world.profile def.repr (variants_of part def.variants types)) def.variants types c.loop-number.number (word_of c.args.run) past)
    ∙ c.loop-number.invariant
