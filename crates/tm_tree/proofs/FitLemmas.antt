-- A type of a world that has a layout is one whose tree says its words, and no deeper than the limit.
use Rattle.std.proofs.Common.{◌≡◌, ℕ, zero, suc, ◌^◌, ◌<◌, ◌≤◌, refl, nat_le, Bool, true, false, ◌&&◌, ◌||◌, not, Option, None, Some, is_some, is_none, List, [], ◌∷◌, slice_get, arith, ℤ, pos, negsuc}
use Rattle.std.specs.List.{list_all}
use Rattle.std.proofs.lemmas.Bool.Decides.{nat_tests}
use Rattle.tm_base.specs.declared.answer.Why.{Why}
use Rattle.tm_base.specs.declared.definition.Def.{Def}
use Rattle.tm_base.specs.declared.definition.Field.{Field}
use Rattle.tm_base.specs.declared.definition.Kind.{Kind}
use Rattle.tm_base.specs.declared.definition.Kind.TheVariants.{Struct, Union, Enum}
use Rattle.tm_base.specs.declared.definition.NamedRow.{NamedRow}
use Rattle.tm_base.specs.declared.definition.Repr.{Repr}
use Rattle.tm_base.specs.declared.definition.Variant.{Variant}
use Rattle.tm_base.specs.declared.ground.Ground.{Ground, out-Ground}
use Rattle.tm_base.specs.declared.ground.Ground.TheOpen.{Ground-F}
use Rattle.tm_base.specs.declared.ground.NamedId.{NamedId}
use Rattle.tm_base.specs.declared.ground.Primitive.{Primitive}
use Rattle.tm_base.specs.declared.ground.Wrapper.{Wrapper}
use Rattle.tm_base.specs.declared.ground.Wrapper.TheVariants as wrapper
use Rattle.tm_base.specs.declared.profile.Profile.{Profile}
use Rattle.tm_base.specs.Expanded.{Expanded, Variants, array, wrap, named, no_variants, variant, fields_of, variants_of, defined, row_of, wrapped, level, expanded, expanded_within, depth_limit}
use Rattle.tm_base.specs.Faults.{has_cause, lacks_range, lacks_repr, layout_fault, or_else, own_fault, passes_i32, sized_count, when, has_two_sized}
use Rattle.tm_base.specs.Integers.{fits_integer, fits_signed}
use Rattle.tm_base.specs.Layout.{only, prim_size, tag_layout, variant_layouts}
use Rattle.tm_base.specs.Parts.{some_part, some_field, some_variant, some_within}
use Rattle.tm_base.specs.Whole.{is_value_in_form}
use Rattle.tm_niche.specs.Forms.{magnitude}
use Rattle.tm_niche.proofs.TagLemmas.{fits-small}
use Rattle.tm_tree.specs.Laws.{HasValues}
use Rattle.tm_tree.specs.Fit.{HoldsValues, IsFit, IsFitKind, AreFit, AreVariantsFit}
use Rattle.tm_tree.proofs.LeafLemmas.{height_of, fields_height, variants_height}

pub none-first : (a b : Bool) → (a || b) ≡ false → a ≡ false
none-first true b e = cc
none-first false b e = refl

pub none-second : (a b : Bool) → (a || b) ≡ false → b ≡ false
none-second true b e = cc
none-second false b e = e

both-first : (a b : Bool) → (a && b) ≡ true → a ≡ true
both-first true b e = refl
both-first false b e = cc

both-second : (a b : Bool) → (a && b) ≡ true → b ≡ true
both-second true b e = e
both-second false b e = cc

-- of causes together none holds where none is told
pub no-either : (a b : Option Why) → is_some (or_else a b) ≡ false → (is_some a ≡ false) × (is_some b ≡ false)
no-either None b e = (refl, e)
no-either (Some why) b e = cc

pub no-when : (b : Bool) (why : Why) → is_some (when b why) ≡ false → b ≡ false
no-when true why e = cc
no-when false why e = refl

few-sized : (b : Bool) (n : ℕ) → (b && nat_le 2 n) ≡ false → b ≡ true → n ≤ 1
few-sized true n e h = grind (arith, nat_tests)
few-sized false n e h = cc

-- ---- tags hold their values

tag-small : (profile : Profile) (p : Primitive) (value : ℤ) → fits_integer profile p value ≡ true → magnitude value < 256 ^ prim_size profile p
tag-small profile p value e = fits-small profile p value e

i32-small : (value : ℤ) → fits_signed 4 value ≡ true → magnitude value < 256 ^ 4
i32-small (pos k) e = let below : k < 2 ^ 31 = grind (arith, nat_tests) in omega arith
i32-small (negsuc k) e = let below : k < 2 ^ 31 = grind (arith, nat_tests) in omega arith

pub not-false : (b : Bool) → not b ≡ false → b ≡ true
not-false true e = refl
not-false false e = cc

module _ (profile : Profile) (part : Ground → Expanded) where
  written-small : (p : Primitive) (vs : List Variant) (types : List (List Ground)) → list_all (λ v. is_value_in_form profile (Some p) v.value) vs ≡ true → HoldsValues (prim_size profile p) (variants_of part vs types)
  written-small p [] types e = tt
  written-small p (v ∷ vs) [] e = (tag-small profile p v.value (both-first (fits_integer profile p v.value) (list_all (λ v. is_value_in_form profile (Some p) v.value) vs) e), tt)
  written-small p (v ∷ vs) (gs ∷ types) e = (
    tag-small profile p v.value (both-first (fits_integer profile p v.value) (list_all (λ v. is_value_in_form profile (Some p) v.value) vs) e),
    written-small p vs types (both-second (fits_integer profile p v.value) (list_all (λ v. is_value_in_form profile (Some p) v.value) vs) e),
  )

  i32-values : (variants : Variants) → passes_i32 variants ≡ false → HoldsValues 4 variants
  i32-values no_variants e = tt
  i32-values (variant value members rest) e =
      (i32-small value (not-false (fits_signed 4 value) (none-first (not (fits_signed 4 value)) (passes_i32 rest) e)), i32-values rest (none-second (not (fits_signed 4 value)) (passes_i32 rest) e))

  pub only-c : (c passes : Bool) → not (c || false) ≡ false → (c && true && passes) ≡ false → passes ≡ false
  only-c true passes e f = f
  only-c false passes e f = cc

  tag-holds : (repr : Repr) (tag : Option Primitive) (vs : List Variant) (types : List (List Ground)) → not (repr.c || is_some tag) ≡ false → (repr.c && is_none tag && passes_i32 (variants_of part vs types)) ≡ false
      → list_all (λ v. is_value_in_form profile tag v.value) vs ≡ true → HoldsValues (tag_layout profile tag).size (variants_of part vs types)
  tag-holds repr (Some p) vs types lacks range values = written-small p vs types values
  tag-holds repr None vs types lacks range values = i32-values (variants_of part vs types) (only-c repr.c (passes_i32 (variants_of part vs types)) lacks range)

  -- what is asked of a definition itself
  kind-fit : (id : NamedId) (kind : Kind) (repr : Repr) (vs : List Variant) (types : List (List Ground))
      → has_cause (named profile id kind repr (variants_of part vs types)) ≡ false → list_all (λ v. is_value_in_form profile repr.tag v.value) vs ≡ true
      → IsFitKind profile kind repr (variants_of part vs types)
  kind-fit id Struct repr vs types e values =
      let t : Expanded = named profile id Struct repr (variants_of part vs types) in
      let layout = none-second (is_some (own_fault t)) (is_some (layout_fault t)) e in
      let (two, others) = no-either (when (has_two_sized t) _) _ layout in
      few-sized repr.transparent (sized_count (only (variant_layouts (variants_of part vs types)))) (no-when (has_two_sized t) _ two)
  kind-fit id Union repr vs types e values = tt
  kind-fit id Enum repr vs types e values =
      let t : Expanded = named profile id Enum repr (variants_of part vs types) in
      let own = none-first (is_some (own_fault t)) (is_some (layout_fault t)) e in
      let (lacks, range) = no-either (when (lacks_repr Enum repr) _) (when (lacks_range Enum repr (variants_of part vs types)) _) own in
      tag-holds repr repr.tag vs types (no-when (lacks_repr Enum repr) _ lacks) (no-when (lacks_range Enum repr (variants_of part vs types)) _ range) values

module _ (profile : Profile) (part : Ground → Expanded) (defs : List Def) (values : HasValues profile defs) (fits : (g : Ground) → some_within has_cause (part g) ≡ false → IsFit profile (part g)) where
  fields-fit : (fs : List Field) (gs : List Ground) → some_field has_cause (fields_of part fs gs) ≡ false → AreFit profile (fields_of part fs gs)
  unfolding some_part IsFit
  fields-fit [] gs e = tt
  fields-fit (f ∷ fs) [] e = (tt, tt)
  fields-fit (f ∷ fs) (g ∷ gs) e =
      (fits g (none-first (some_within has_cause (part g)) (some_field has_cause (fields_of part fs gs)) e), fields-fit fs gs (none-second (some_within has_cause (part g)) (some_field has_cause (fields_of part fs gs)) e))

  variants-fit : (vs : List Variant) (types : List (List Ground)) → some_variant has_cause (variants_of part vs types) ≡ false → AreVariantsFit profile (variants_of part vs types)
  unfolding some_part IsFit
  variants-fit [] types e = tt
  variants-fit (v ∷ vs) [] e = ((tt, tt), tt)
  variants-fit (v ∷ vs) (gs ∷ types) e = (
    fields-fit v.fields gs (none-first (some_field has_cause (fields_of part v.fields gs)) (some_variant has_cause (variants_of part vs types)) e),
    variants-fit vs types (none-second (some_field has_cause (fields_of part v.fields gs)) (some_variant has_cause (variants_of part vs types)) e),
  )

  defined-fit : (id : NamedId) (types : List (List Ground)) (k : ℕ) (d : Option Def) → slice_get defs k ≡ d → some_within has_cause (defined part profile id types d) ≡ false → IsFit profile (defined part profile id types d)
  unfolding some_part IsFit
  defined-fit id types k None at e = tt
  defined-fit id types k (Some def) at e =
      let t : Expanded = named profile id def.kind def.repr (variants_of part def.variants types) in (
        kind-fit profile part id def.kind def.repr def.variants types (none-first (has_cause t) (some_variant has_cause (variants_of part def.variants types)) e) (values k def at),
        variants-fit def.variants types (none-second (has_cause t) (some_variant has_cause (variants_of part def.variants types)) e),
      )

  row-fit : (id : NamedId) (row : Option NamedRow) → some_within has_cause (row_of part profile defs id row) ≡ false → IsFit profile (row_of part profile defs id row)
  unfolding IsFit
  row-fit id None e = tt
  row-fit id (Some row) e = defined-fit id row.types row.def.0 (slice_get defs row.def.0) refl e

  wrapped-fit : (w : Wrapper) (g : Ground) → some_within has_cause (wrapped part w g) ≡ false → IsFit profile (wrapped part w g)
  unfolding some_part IsFit
  wrapped-fit wrapper.PhantomData g e = tt
  wrapped-fit wrapper.Option g e = fits g (none-second (has_cause (wrap wrapper.Option (part g))) (some_within has_cause (part g)) e)
  wrapped-fit wrapper.MaybeUninit g e = fits g (none-second (has_cause (wrap wrapper.MaybeUninit (part g))) (some_within has_cause (part g)) e)
  wrapped-fit wrapper.ManuallyDrop g e = fits g (none-second (has_cause (wrap wrapper.ManuallyDrop (part g))) (some_within has_cause (part g)) e)
  wrapped-fit wrapper.Wrapping g e = fits g (none-second (has_cause (wrap wrapper.Wrapping (part g))) (some_within has_cause (part g)) e)
  wrapped-fit wrapper.Cell g e = fits g (none-second (has_cause (wrap wrapper.Cell (part g))) (some_within has_cause (part g)) e)
  wrapped-fit wrapper.UnsafeCell g e = fits g (none-second (has_cause (wrap wrapper.UnsafeCell (part g))) (some_within has_cause (part g)) e)

  level-fit : (rows : List NamedRow) (x : Ground-F Ground) → some_within has_cause (level part profile defs rows x) ≡ false → IsFit profile (level part profile defs rows x)
  unfolding some_part IsFit
  level-fit rows (Ground-F.Prim p) e = tt
  level-fit rows Ground-F.Never e = tt
  level-fit rows Ground-F.Unit e = tt
  level-fit rows (Ground-F.Tuple gs) e = tt
  level-fit rows (Ground-F.Array g n) e = fits g (none-second (has_cause (array (part g) n)) (some_within has_cause (part g)) e)
  level-fit rows (Ground-F.Named id) e = row-fit id (slice_get rows id.0) e
  level-fit rows (Ground-F.NonZero p) e = tt
  level-fit rows (Ground-F.Wrap w g) e = wrapped-fit w g e
  level-fit rows (Ground-F.Ref r) e = refl

within-fit : (profile : Profile) (n : ℕ) (defs : List Def) (rows : List NamedRow) → HasValues profile defs → (g : Ground) → some_within has_cause (expanded_within profile n defs rows g) ≡ false → IsFit profile (expanded_within profile n defs rows g)
unfolding expanded_within IsFit
within-fit profile zero defs rows values g e = tt
within-fit profile (suc n) defs rows values g e = level-fit profile (expanded_within profile n defs rows) defs values (λ h. within-fit profile n defs rows values h) rows (out-Ground g) e

-- a type of a world that has a layout is fit
pub expanded-fit : (profile : Profile) (defs : List Def) (rows : List NamedRow) → HasValues profile defs → (g : Ground) → some_within has_cause (expanded profile defs rows g) ≡ false → IsFit profile (expanded profile defs rows g)
expanded-fit profile defs rows values g e = within-fit profile depth_limit defs rows values g e

-- ---- depth

module _ (profile : Profile) (part : Ground → Expanded) (n : ℕ) (low : (g : Ground) → height_of (part g) ≤ n) where
  fields-low : (fs : List Field) (gs : List Ground) → fields_height (fields_of part fs gs) ≤ n
  unfolding height_of
  fields-low [] gs = omega arith
  fields-low (f ∷ fs) [] = omega arith
  fields-low (f ∷ fs) (g ∷ gs) = let here = low g in let others = fields-low fs gs in omega arith

  variants-low : (vs : List Variant) (types : List (List Ground)) → variants_height (variants_of part vs types) ≤ n
  unfolding height_of
  variants-low [] types = omega arith
  variants-low (v ∷ vs) [] = omega arith
  variants-low (v ∷ vs) (gs ∷ types) = let here = fields-low v.fields gs in let others = variants-low vs types in omega arith

  defined-low : (id : NamedId) (types : List (List Ground)) (d : Option Def) → height_of (defined part profile id types d) ≤ suc n
  unfolding height_of
  defined-low id types None = omega arith
  defined-low id types (Some def) = let all = variants-low def.variants types in omega arith

  row-low : (defs : List Def) (id : NamedId) (row : Option NamedRow) → height_of (row_of part profile defs id row) ≤ suc n
  unfolding height_of
  row-low defs id None = omega arith
  row-low defs id (Some row) = defined-low id row.types (slice_get defs row.def.0)

  wrapped-low : (w : Wrapper) (g : Ground) → height_of (wrapped part w g) ≤ suc n
  unfolding height_of
  wrapped-low wrapper.PhantomData g = omega arith
  wrapped-low wrapper.Option g = let here = low g in omega arith
  wrapped-low wrapper.MaybeUninit g = let here = low g in omega arith
  wrapped-low wrapper.ManuallyDrop g = let here = low g in omega arith
  wrapped-low wrapper.Wrapping g = let here = low g in omega arith
  wrapped-low wrapper.Cell g = let here = low g in omega arith
  wrapped-low wrapper.UnsafeCell g = let here = low g in omega arith

  level-low : (defs : List Def) (rows : List NamedRow) (x : Ground-F Ground) → height_of (level part profile defs rows x) ≤ suc n
  unfolding height_of
  level-low defs rows (Ground-F.Prim p) = omega arith
  level-low defs rows Ground-F.Never = omega arith
  level-low defs rows Ground-F.Unit = omega arith
  level-low defs rows (Ground-F.Tuple gs) = omega arith
  level-low defs rows (Ground-F.Array g m) = let here = low g in omega arith
  level-low defs rows (Ground-F.Named id) = row-low defs id (slice_get rows id.0)
  level-low defs rows (Ground-F.NonZero p) = omega arith
  level-low defs rows (Ground-F.Wrap w g) = wrapped-low w g
  level-low defs rows (Ground-F.Ref r) = omega arith

within-low : (profile : Profile) (n : ℕ) (defs : List Def) (rows : List NamedRow) (g : Ground) → height_of (expanded_within profile n defs rows g) ≤ n
unfolding expanded_within height_of
within-low profile zero defs rows g = omega arith
within-low profile (suc n) defs rows g = level-low profile (expanded_within profile n defs rows) n (λ h. within-low profile n defs rows h) defs rows (out-Ground g)

-- no type of a world is deeper than the limit
pub expanded-low : (profile : Profile) (defs : List Def) (rows : List NamedRow) (g : Ground) → height_of (expanded profile defs rows g) ≤ 64
expanded-low profile defs rows g = within-low profile depth_limit defs rows g
