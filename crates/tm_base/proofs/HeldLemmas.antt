-- What a judged type holds by value is judged: it reaches all of that. So it has a layout.
use Rattle.std.proofs.Common.{◌≡◌, zero, suc, refl, sym, ◌∙◌, ap, subst, Bool, true, false, ◌||◌, not, IsTrue, List, [], ◌∷◌, Option, Some, None, slice_get, arith}
use Rattle.std.specs.List.{Contains, flat_map}
use Rattle.std.specs.Option.{is_some}
use Rattle.std.proofs.lemmas.Bool.{and_parts, or_parts, not-true}
use Rattle.std.proofs.lemmas.List.Elements.{Contains-append_left, Contains-append_right}
use Rattle.tm_base.specs.declared.definition.Def.{Def}
use Rattle.tm_base.specs.declared.definition.Field.{Field}
use Rattle.tm_base.specs.declared.definition.NamedRow.{NamedRow}
use Rattle.tm_base.specs.declared.definition.Variant.{Variant}
use Rattle.tm_base.specs.declared.ground.Ground.{Ground, out-Ground}
use Rattle.tm_base.specs.declared.ground.Ground.TheOpen.{Ground-F}
use Rattle.tm_base.specs.declared.ground.NamedId.{NamedId}
use Rattle.tm_base.specs.declared.ground.Wrapper.{Wrapper}
use Rattle.tm_base.specs.declared.ground.Wrapper.TheVariants as wrapper
use Rattle.tm_base.specs.Expanded.{Expanded, Fields, Variants, too_deep, prim, never, unit, tuple, array, nonzero, phantom, wrap, ref, named, no_fields, field, no_variants, variant, elements, fields_of, variants_of, defined, row_of, wrapped, level}
use Rattle.tm_base.specs.Faults.{fault_of, has_no_layout}
use Rattle.tm_base.specs.Parts.{some_part, some_field, some_variant, some_within, is_too_deep, is_whole}
use Rattle.tm_base.specs.Reaches.{ChainIn, argument_of, row_parts, parts_within, parts_of, pointees_of, IsJudged}
use Rattle.tm_base.specs.Tables.{Tables, expanded_in}
use Rattle.tm_base.specs.Whole.{is_type_over}
use Rattle.tm_base.specs.Worlds.{IsTypeOver}
use Rattle.tm_base.proofs.ExpandedLemmas.{IsDeepEnough, expanded-level}
use Rattle.tm_base.proofs.FaultLemmas.{no_layout-faulty}

both_false : (a b : Bool) → a ≡ false → b ≡ false → (a || b) ≡ false
both_false false b h k = k
both_false true b h k = cc

module _ (Q : Expanded → Type 0) where
  -- it holds of each type right inside this one
  abbrev pub FieldsPass : Fields → Type 0
  FieldsPass no_fields = Unit {0}
  FieldsPass (field public t rest) = Q t × FieldsPass rest

  abbrev pub VariantsPass : Variants → Type 0
  VariantsPass no_variants = Unit {0}
  VariantsPass (variant value members rest) = FieldsPass members × VariantsPass rest

  abbrev pub PartsPass : Expanded → Type 0
  PartsPass (tuple members) = FieldsPass members
  PartsPass (array t n) = Q t
  PartsPass (wrap w t) = Q t
  PartsPass (named profile id kind repr variants) = VariantsPass variants
  PartsPass t = Unit {0}

  -- what goes from a type to those right inside it, and fails a test, goes to none that passes it
  module _ (test : Expanded → Bool) (fails : (t : Expanded) → Q t → test t ≡ false) (goes_on : (t : Expanded) → Q t → PartsPass t) where
    mutual
      unfolding some_part

      parts-fail : (t : Expanded) → PartsPass t → some_part test t ≡ false
      parts-fail (tuple members) h = fields-fail members h
      parts-fail (array t n) h = both_false (test t) (some_part test t) (fails t h) (parts-fail t (goes_on t h))
      parts-fail (wrap w t) h = both_false (test t) (some_part test t) (fails t h) (parts-fail t (goes_on t h))
      parts-fail (named profile id kind repr vs) h = variants-fail vs h
      parts-fail too_deep h = refl
      parts-fail (prim profile p) h = refl
      parts-fail never h = refl
      parts-fail unit h = refl
      parts-fail (nonzero profile p) h = refl
      parts-fail phantom h = refl
      parts-fail (ref profile r) h = refl

      fields-fail : (members : Fields) → FieldsPass members → some_field test members ≡ false
      fields-fail no_fields h = refl
      fields-fail (field public t rest) (here, others) =
          both_false (test t || some_part test t) (some_field test rest) (both_false (test t) (some_part test t) (fails t here) (parts-fail t (goes_on t here))) (fields-fail rest others)

      variants-fail : (vs : Variants) → VariantsPass vs → some_variant test vs ≡ false
      variants-fail no_variants h = refl
      variants-fail (variant value members rest) (here, others) =
          both_false (some_field test members) (some_variant test rest) (fields-fail members here) (variants-fail rest others)

module _ (tables : Tables) where
  abbrev part : Ground → Expanded
  part g = expanded_in tables g

  -- a judged type, written out whole
  abbrev pub IsOfJudged : Expanded → Type 0
  IsOfJudged t = (g : Ground) × IsJudged tables g × IsDeepEnough t × (part g ≡ t)

  abbrev AllJudged : List Ground → Type 0
  AllJudged gs = (h : Ground) → Contains gs h → IsJudged tables h

  first-judged : (g : Ground) (gs : List Ground) → AllJudged (g ∷ gs) → IsJudged tables g
  first-judged g gs judged = judged g (zero, omega arith, refl)

  rest-judged : (g : Ground) (gs : List Ground) → AllJudged (g ∷ gs) → AllJudged gs
  rest-judged g gs judged h (k, below, e) = judged h (suc k, omega arith, e)

  elements-judged : (gs : List Ground) → AllJudged gs → some_field is_too_deep (elements part gs) ≡ false → FieldsPass IsOfJudged (elements part gs)
  unfolding some_part
  elements-judged [] judged deep = tt
  elements-judged (g ∷ gs) judged deep =
      let (here, others) = or_parts (some_within is_too_deep (part g)) (some_field is_too_deep (elements part gs)) deep in
      ((g, first-judged g gs judged, here, refl), elements-judged gs (rest-judged g gs judged) others)

  fields-judged : (fs : List Field) (gs : List Ground) → AllJudged gs → some_field is_too_deep (fields_of part fs gs) ≡ false → FieldsPass IsOfJudged (fields_of part fs gs)
  unfolding some_part
  fields-judged [] gs judged deep = tt
  fields-judged (f ∷ fs) [] judged deep = cc
  fields-judged (f ∷ fs) (g ∷ gs) judged deep =
      let (here, others) = or_parts (some_within is_too_deep (part g)) (some_field is_too_deep (fields_of part fs gs)) deep in
      ((g, first-judged g gs judged, here, refl), fields-judged fs gs (rest-judged g gs judged) others)

  variants-judged : (vs : List Variant) (types : List (List Ground)) → AllJudged (flat_map (λ gs. gs) types) → some_variant is_too_deep (variants_of part vs types) ≡ false
      → VariantsPass IsOfJudged (variants_of part vs types)
  unfolding some_part
  variants-judged [] types judged deep = tt
  variants-judged (v ∷ vs) [] judged deep = cc
  variants-judged (v ∷ vs) (gs ∷ types) judged deep =
      let (here, others) = or_parts (some_field is_too_deep (fields_of part v.fields gs)) (some_variant is_too_deep (variants_of part vs types)) deep in (
        fields-judged v.fields gs (λ h at. judged h (Contains-append_left gs (flat_map (λ gs. gs) types) h at)) here,
        variants-judged vs types (λ h at. judged h (Contains-append_right gs (flat_map (λ gs. gs) types) h at)) others,
      )

  defined-judged : (id : NamedId) (types : List (List Ground)) (d : Option Def) → AllJudged (flat_map (λ gs. gs) types) → IsDeepEnough (defined part tables.profile id types d) → PartsPass IsOfJudged (defined part tables.profile id types d)
  unfolding some_part
  defined-judged id types None judged deep = tt
  defined-judged id types (Some d) judged deep = variants-judged d.variants types judged deep

  row-judged : (id : NamedId) (row : Option NamedRow) → AllJudged (row_parts row) → IsDeepEnough (row_of part tables.profile tables.defs id row) → PartsPass IsOfJudged (row_of part tables.profile tables.defs id row)
  row-judged id None judged deep = tt
  row-judged id (Some row) judged deep = defined-judged id row.types (slice_get tables.defs row.def.0) judged deep

  wrapped-judged : (w : Wrapper) (g : Ground) → AllJudged (argument_of w g) → IsDeepEnough (wrapped part w g) → PartsPass IsOfJudged (wrapped part w g)
  unfolding some_part
  wrapped-judged wrapper.PhantomData g judged deep = tt
  wrapped-judged w g judged deep = (g, first-judged g [] judged, deep, refl)

  level-judged : (x : Ground-F Ground) → AllJudged (parts_within tables.named x) → IsDeepEnough (level part tables.profile tables.defs tables.named x) → PartsPass IsOfJudged (level part tables.profile tables.defs tables.named x)
  unfolding some_part
  level-judged (Ground-F.Tuple gs) judged deep = elements-judged gs judged deep
  level-judged (Ground-F.Array g n) judged deep = (g, first-judged g [] judged, deep, refl)
  level-judged (Ground-F.Named id) judged deep = row-judged id (slice_get tables.named id.0) judged deep
  level-judged (Ground-F.Wrap w g) judged deep = wrapped-judged w g judged deep
  level-judged (Ground-F.Prim p) judged deep = tt
  level-judged Ground-F.Never judged deep = tt
  level-judged Ground-F.Unit judged deep = tt
  level-judged (Ground-F.NonZero p) judged deep = tt
  level-judged (Ground-F.Ref r) judged deep = tt

  -- the parts of a judged type are judged
  parts-judged : (g : Ground) → IsJudged tables g → AllJudged (parts_of tables g)
  unfolding ChainIn
  parts-judged g judged h at = λ k (n, way).
      judged k (suc n, (h, Contains-append_left (parts_of tables g) (pointees_of tables g) h at, way))

  -- what is right inside a judged type is judged
  pub inside-judged : (t : Expanded) → IsOfJudged t → PartsPass IsOfJudged t
  inside-judged t (g, judged, deep, e) =
      let whole : IsTrue (is_whole (part g)) = ap not (subst IsDeepEnough (sym e) deep) in
      let same : level part tables.profile tables.defs tables.named (out-Ground g) ≡ t = sym (expanded-level tables.profile tables.defs tables.named g whole) ∙ e in
      subst (PartsPass IsOfJudged) same (level-judged (out-Ground g) (parts-judged g judged) (subst IsDeepEnough (sym same) deep))

  judged-faultless : (t : Expanded) → IsOfJudged t → is_some (fault_of t) ≡ false
  unfolding ChainIn
  judged-faultless t (g, judged, deep, e) = subst (λ u. is_some (fault_of u) ≡ false) e (ap is_some (judged g (0, refl)))

  -- a judged type over the tables has a layout
  pub judged-laid_out : (g : Ground) → IsTypeOver tables g → IsJudged tables g → has_no_layout (part g) ≡ false
  unfolding is_type_over
  judged-laid_out g over judged =
      let whole = (and_parts _ (is_whole (part g)) over).1 in
      let this : IsOfJudged (part g) = (g, judged, not-true (some_within is_too_deep (part g)) whole, refl) in
      no_layout-faulty (part g)
      ∙ both_false (is_some (fault_of (part g))) (some_part (λ t. is_some (fault_of t)) (part g)) (judged-faultless (part g) this)
      (parts-fail IsOfJudged (λ t. is_some (fault_of t)) judged-faultless inside-judged (part g) (inside-judged (part g) this))
