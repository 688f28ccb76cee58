-- A named type by its definition: its trees from those of its fields, and where these stand.
use Rattle.std.proofs.Common.{◌≡◌, ℕ, ◌+◌, ◌≤◌, refl, sym, ◌∙◌, ap, subst, Bool, true, false, ◌&&◌, if◌then◌else◌, List, [], ◌∷◌, length, slice_get, arith}
use Rattle.std.specs.List.{AllByRecursion, list_all}
use Rattle.tm_base.specs.declared.definition.Def.{Def}
use Rattle.tm_base.specs.declared.definition.Field.{Field}
use Rattle.tm_base.specs.declared.definition.Kind.TheVariants.{Struct, Union}
use Rattle.tm_base.specs.declared.definition.Repr.{Repr}
use Rattle.tm_base.specs.declared.definition.Variant.{Variant}
use Rattle.tm_base.specs.declared.ground.Ground.{Ground, Named}
use Rattle.tm_base.specs.declared.ground.NamedId.{NamedId}
use Rattle.tm_base.specs.declared.profile.Profile.{Profile}
use Rattle.tm_base.specs.Expanded.{Expanded, Variants, elements, fields_of, named, variants_of}
use Rattle.tm_base.specs.Laws.{Apart}
use Rattle.tm_base.specs.Layout.{field_layouts, layout_of, only, places, size_of, struct_layout, union_layout}
use Rattle.tm_base.specs.Places.{at_front}
use Rattle.tm_base.specs.Tables.{Tables, expanded_in}
use Rattle.tm_base.specs.Valid.{all_public}
use Rattle.tm_base.proofs.LayoutLemmas.{struct_places-apart, union_fields-inside}
use Rattle.tm_layout.specs.Made.{EachIs}
use Rattle.tm_layout.proofs.DefinitionLemmas.{in_form}
use Rattle.tm_layout.specs.LaidOut.{IsLaidOut, places_at}
use Rattle.tm_layout.proofs.VariantLemmas.{IsOne, few-fields, layouts-count, layouts-same, one-whole, only-fields, only-laid_out, places-count, public-same, struct-is, total-at, union-is}
use Rattle.tm_niche.specs.Forms.{one_of}
use Rattle.tm_tree.specs.LaidOut.{AreFieldsWithin, IsSizedDefinition}
use Rattle.tm_tree.specs.Parts.{bare_parts, field_parts, guarded, parts_of, union_ways}

-- ---- what is said of fields by their types alone

module _ (part : Ground → Expanded) where
  bare-same : (fs : List Field) (gs : List Ground) → length fs ≡ length gs → bare_parts (fields_of part fs gs) ≡ bare_parts (elements part gs)
  unfolding parts_of
  bare-same [] [] e = refl
  bare-same [] (g ∷ gs) e = absurd (omega arith)
  bare-same (f ∷ fs) [] e = absurd (omega arith)
  bare-same (f ∷ fs) (g ∷ gs) e = let rest = bare-same fs gs (omega arith) in cc

  pub placed-same : (end at : ℕ) (ps : List ℕ) (fs : List Field) (gs : List Ground) → length fs ≡ length gs → field_parts end at ps (fields_of part fs gs) ≡ field_parts end at ps (elements part gs)
  unfolding parts_of
  placed-same end at ps [] [] e = refl
  placed-same end at ps [] (g ∷ gs) e = absurd (omega arith)
  placed-same end at ps (f ∷ fs) [] e = absurd (omega arith)
  placed-same end at [] (f ∷ fs) (g ∷ gs) e = refl
  placed-same end at (place ∷ ps) (f ∷ fs) (g ∷ gs) e = let rest = placed-same end (place + size_of (part g)) ps fs gs (omega arith) in cc

  ways-same : (size : ℕ) (fs : List Field) (gs : List Ground) → length fs ≡ length gs → union_ways size (fields_of part fs gs) ≡ union_ways size (elements part gs)
  unfolding parts_of
  ways-same size [] [] e = refl
  ways-same size [] (g ∷ gs) e = absurd (omega arith)
  ways-same size (f ∷ fs) [] e = absurd (omega arith)
  ways-same size (f ∷ fs) (g ∷ gs) e = let rest = ways-same size fs gs (omega arith) in cc

and-true : (b : Bool) → (b && true) ≡ b
and-true true = refl
and-true false = refl

-- ---- a definition of one variant

module _ (profile : Profile) (id : NamedId) (part : Ground → Expanded) (repr : Repr) (v : Variant) (gs : List Ground) (count : length v.fields ≡ length gs) where
  abbrev only_one : Variants
  only_one = variants_of part (v ∷ []) (gs ∷ [])

  abbrev is_open : Bool
  is_open = list_all (λ u. list_all (λ f. f.public) u.fields) (v ∷ [])

  open-same : is_open ≡ all_public (fields_of part v.fields gs)
  open-same = and-true (list_all (λ f. f.public) v.fields) ∙ public-same part v.fields gs count

  struct-places : repr.transparent ≡ false → places_at (named profile id Struct repr only_one) 0 ≡ places repr.packed 0 (field_layouts (elements part gs))
  unfolding layout_of
  struct-places e =
      ap (λ b. (if b then at_front else places repr.packed 0) (field_layouts (fields_of part v.fields gs))) e ∙ ap (places repr.packed 0) (layouts-same part v.fields gs count)

  struct-apart : repr.transparent ≡ false → Apart 0 (places repr.packed 0 (field_layouts (elements part gs))) (field_layouts (elements part gs)) (size_of (named profile id Struct repr only_one))
  unfolding layout_of
  struct-apart e =
      let ls = field_layouts (elements part gs) in
      let size : size_of (named profile id Struct repr only_one) ≡ (struct_layout repr.packed repr.align ls).size = rw e (ap (λ ks. (struct_layout repr.packed repr.align ks).size) (layouts-same part v.fields gs count)) in
      subst (Apart 0 (places repr.packed 0 ls) ls) (sym size) (struct_places-apart repr.packed repr.align ls)

  struct-parts : repr.transparent ≡ false → (size : ℕ) → size ≡ size_of (named profile id Struct repr only_one)
      → guarded is_open (field_parts size 0 (places_at (named profile id Struct repr only_one) 0) (elements part gs)) ≡ parts_of (named profile id Struct repr only_one)
  unfolding parts_of layout_of
  struct-parts e size same =
      let whole = size_of (named profile id Struct repr only_one) in
      let members = fields_of part v.fields gs in
      ap (λ (n : ℕ). guarded is_open (field_parts n 0 (places_at (named profile id Struct repr only_one) 0) (elements part gs))) same
      ∙ ap (λ ps. guarded is_open (field_parts whole 0 ps (elements part gs))) (struct-places e ∙ ap (places repr.packed 0) (sym (layouts-same part v.fields gs count)))
      ∙ ap (λ ts. guarded is_open ts) (sym (placed-same part whole 0 (places repr.packed 0 (field_layouts members)) v.fields gs count))
      ∙ ap (λ b. guarded b (field_parts whole 0 (places repr.packed 0 (field_layouts members)) members)) open-same
      ∙ ap (λ b. guarded (all_public members) (if b then bare_parts members else field_parts whole 0 (places repr.packed 0 (field_layouts members)) members)) (sym e)

  bare_struct-parts : repr.transparent ≡ true → guarded is_open (bare_parts (elements part gs)) ≡ parts_of (named profile id Struct repr only_one)
  unfolding parts_of layout_of
  bare_struct-parts e =
      let whole = size_of (named profile id Struct repr only_one) in
      let members = fields_of part v.fields gs in
      ap (λ ts. guarded is_open ts) (sym (bare-same part v.fields gs count)) ∙ ap (λ b. guarded b (bare_parts members)) open-same
      ∙ ap (λ b. guarded (all_public members) (if b then bare_parts members else field_parts whole 0 (places repr.packed 0 (field_layouts members)) members)) (sym e)

  union-inside : AllByRecursion (λ l. l.size ≤ size_of (named profile id Union repr only_one)) (field_layouts (elements part gs))
  unfolding layout_of
  union-inside =
      subst (λ ls. AllByRecursion (λ l. l.size ≤ (union_layout repr.packed repr.align (field_layouts (fields_of part v.fields gs))).size) ls) (layouts-same part v.fields gs count)
      (union_fields-inside repr.packed repr.align (field_layouts (fields_of part v.fields gs)))

  union-parts : (size : ℕ) → size ≡ size_of (named profile id Union repr only_one)
      → guarded is_open (one_of (union_ways size (elements part gs)) ∷ []) ≡ parts_of (named profile id Union repr only_one)
  unfolding parts_of layout_of
  union-parts size same =
      let whole = size_of (named profile id Union repr only_one) in
      let members = fields_of part v.fields gs in
      ap (λ (n : ℕ). guarded is_open (one_of (union_ways n (elements part gs)) ∷ [])) same
      ∙ ap (λ ts. guarded is_open (one_of ts ∷ [])) (sym (ways-same part whole v.fields gs count)) ∙ ap (λ b. guarded b (one_of (union_ways whole members) ∷ [])) open-same

-- ---- a named type of a world

module _ (tables : Tables) (id : NamedId) (size : ℕ) (def : Def) (types : List (List Ground)) (is : IsSizedDefinition tables id size def types) where
  abbrev part : Ground → Expanded
  part = expanded_in tables

  abbrev is_public : Bool
  is_public = list_all (λ v. list_all (λ f. f.public) v.fields) def.variants

  public-one : (one : IsOne def.variants types) → is_public ≡ list_all (λ v. list_all (λ f. f.public) v.fields) (one.variant ∷ [])
  public-one one = ap (list_all (λ v. list_all (λ f. f.public) v.fields)) one.one

  pub struct-fields : def.kind ≡ Struct → def.repr.transparent ≡ false → AreFieldsWithin tables id 0 0 size (only types)
  struct-fields e plain =
      let one = struct-is tables id def types is.definition e in
      let whole = one-whole tables id def types is.definition Struct e one in
      let ls = field_layouts (elements part one.fields) in
      let ps : places_at (part (Named id)) 0 ≡ places def.repr.packed 0 ls = ap (λ t. places_at t 0) whole ∙ struct-places tables.profile id part def.repr one.variant one.fields one.count plain in
      let total = few-fields tables.profile def is.definition.in_form in
      let most = total-at def.variants 0 one.variant (ap (λ (vs : List Variant). slice_get vs 0) one.one) in
      let of_one : AreFieldsWithin tables id 0 0 size one.fields = record {
        fields = record {
          each = subst (EachIs (IsLaidOut tables)) (only-fields tables id def types is.definition one) (only-laid_out tables id def types is.definition one);
          few = omega (arith, one.count);
          sound = is.definition.sound;
          count = ap (λ xs. length xs) ps ∙ places-count def.repr.packed 0 ls ∙ layouts-count part one.fields;
        };
        apart = subst (λ qs. Apart 0 qs ls size) (sym ps)
            (subst (Apart 0 (places def.repr.packed 0 ls) ls) (sym (is.size ∙ ap size_of whole)) (struct-apart tables.profile id part def.repr one.variant one.fields one.count plain));
      } in
      subst (AreFieldsWithin tables id 0 0 size) (sym (only-fields tables id def types is.definition one)) of_one

  pub struct-made : def.kind ≡ Struct → def.repr.transparent ≡ false → guarded is_public (field_parts size 0 (places_at (part (Named id)) 0) (elements part (only types))) ≡ parts_of (part (Named id))
  struct-made e plain =
      let one = struct-is tables id def types is.definition e in
      let whole = one-whole tables id def types is.definition Struct e one in
      ap (λ b. guarded b (field_parts size 0 (places_at (part (Named id)) 0) (elements part (only types)))) (public-one one)
      ∙ ap (λ gs. guarded (list_all (λ v. list_all (λ f. f.public) v.fields) (one.variant ∷ [])) (field_parts size 0 (places_at (part (Named id)) 0) (elements part gs))) (only-fields tables id def types is.definition one)
      ∙ ap (λ t. guarded (list_all (λ v. list_all (λ f. f.public) v.fields) (one.variant ∷ [])) (field_parts size 0 (places_at t 0) (elements part one.fields))) whole
      ∙ struct-parts tables.profile id part def.repr one.variant one.fields one.count plain size (is.size ∙ ap size_of whole) ∙ ap parts_of (sym whole)

  pub bare-made : def.kind ≡ Struct → def.repr.transparent ≡ true → guarded is_public (bare_parts (elements part (only types))) ≡ parts_of (part (Named id))
  bare-made e bare =
      let one = struct-is tables id def types is.definition e in
      ap (λ b. guarded b (bare_parts (elements part (only types)))) (public-one one)
      ∙ ap (λ gs. guarded (list_all (λ v. list_all (λ f. f.public) v.fields) (one.variant ∷ [])) (bare_parts (elements part gs))) (only-fields tables id def types is.definition one)
      ∙ bare_struct-parts tables.profile id part def.repr one.variant one.fields one.count bare ∙ ap parts_of (sym (one-whole tables id def types is.definition Struct e one))

  pub union-fields : def.kind ≡ Union → AllByRecursion (λ l. l.size ≤ size) (field_layouts (elements part (only types)))
  union-fields e =
      let one = union-is tables id def types is.definition e in
      let whole = one-whole tables id def types is.definition Union e one in
      subst (λ gs. AllByRecursion (λ l. l.size ≤ size) (field_layouts (elements part gs))) (sym (only-fields tables id def types is.definition one))
      (subst (λ (n : ℕ). AllByRecursion (λ l. l.size ≤ n) (field_layouts (elements part one.fields))) (sym (is.size ∙ ap size_of whole)) (union-inside tables.profile id part def.repr one.variant one.fields one.count))

  pub union-made : def.kind ≡ Union → guarded is_public (one_of (union_ways size (elements part (only types))) ∷ []) ≡ parts_of (part (Named id))
  union-made e =
      let one = union-is tables id def types is.definition e in
      let whole = one-whole tables id def types is.definition Union e one in
      ap (λ b. guarded b (one_of (union_ways size (elements part (only types))) ∷ [])) (public-one one)
      ∙ ap (λ gs. guarded (list_all (λ v. list_all (λ f. f.public) v.fields) (one.variant ∷ [])) (one_of (union_ways size (elements part gs)) ∷ [])) (only-fields tables id def types is.definition one)
      ∙ union-parts tables.profile id part def.repr one.variant one.fields one.count size (is.size ∙ ap size_of whole) ∙ ap parts_of (sym whole)
