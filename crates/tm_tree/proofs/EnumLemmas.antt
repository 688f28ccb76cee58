-- An enum by its definition: its tags hold their values, and where the fields of a variant stand.
use Rattle.std.proofs.Common.{◌≡◌, ℕ, zero, suc, refl, sym, ◌∙◌, ap, subst, true, false, ◌&&◌, ◌||◌, not, ℤ, List, [], ◌∷◌, Option, Some, None, slice_get}
use Rattle.std.specs.List.{AllByRecursion, list_all}
use Rattle.std.specs.Option.{is_none, is_some}
use Rattle.tm_base.specs.declared.definition.Def.{Def}
use Rattle.tm_base.specs.declared.definition.Kind.TheVariants.{Enum}
use Rattle.tm_base.specs.declared.definition.Repr.{Repr}
use Rattle.tm_base.specs.declared.definition.Variant.{Variant}
use Rattle.tm_base.specs.declared.ground.Ground.{Ground, Named}
use Rattle.tm_base.specs.declared.ground.NamedId.{NamedId}
use Rattle.tm_base.specs.declared.ground.Primitive.{Primitive}
use Rattle.tm_base.specs.declared.ground.Primitive.TheVariants.{U128, I128}
use Rattle.tm_base.specs.declared.profile.Profile.{Profile}
use Rattle.tm_base.specs.declared.tree.Tree.{Tree}
use Rattle.tm_base.specs.Expanded.{Expanded, Variants, elements, fields_of, named, variants_of}
use Rattle.tm_base.specs.Faults.{has_cause, has_no_layout, lacks_range, lacks_repr, layout_fault, own_fault, passes_i32, when}
use Rattle.tm_base.specs.Integers.{fits_integer, fits_signed, is_integer, is_tag_type}
use Rattle.tm_base.specs.Laws.{Apart}
use Rattle.tm_base.specs.Layout.{Layout, field_layouts, places, prim_size, size_of, tag_layout, variant_layouts}
use Rattle.tm_base.specs.Parts.{some_part}
use Rattle.tm_base.specs.Places.{fields_place, variant_places}
use Rattle.tm_base.specs.Tables.{Tables, expanded_in}
use Rattle.tm_base.specs.Whole.{is_tag_in_form, is_value_in_form}
use Rattle.tm_base.proofs.WorldLemmas.{list_all-at}
use Rattle.tm_layout.proofs.DefinitionLemmas.{in_form}
use Rattle.tm_layout.proofs.RowLemmas.{first_true, second_true}
use Rattle.tm_layout.specs.LaidOut.{places_at}
use Rattle.tm_layout.proofs.EnumFieldLemmas.{enum-whole, in_repr, typed, variant-fields as fields-of, variant-places}
use Rattle.tm_layout.proofs.VariantLemmas.{layouts-at, layouts-same}
use Rattle.tm_niche.specs.Forms.{one_of, tag_form}
use Rattle.tm_tree.specs.declared.rows.Row.{Row}
use Rattle.tm_tree.specs.LaidOut.{AreFieldsWithin, IsSizedDefinition, tag_type}
use Rattle.tm_tree.specs.Parts.{field_parts, parts_of, variant_ways}
use Rattle.tm_tree.proofs.BehindLemmas.{variants-apart}
use Rattle.tm_tree.proofs.DefinedLemmas.{placed-same}
use Rattle.tm_tree.proofs.FitLemmas.{no-either, no-when, none-first, none-second, not-false, only-c}

-- ---- tags

-- a tag has as many bytes as its type
tag-sized : (profile : Profile) (tag : Option Primitive) → prim_size profile (tag_type tag) ≡ (tag_layout profile tag).size
tag-sized profile None = refl
tag-sized profile (Some p) = refl

pub tag-row : (profile : Profile) (tag : Option Primitive) (value : ℤ) (p : Primitive) (tree : Tree) (parts : List Tree) (end : ℕ) → p ≡ tag_type tag → tree ≡ tag_form profile (prim_size profile p) value
    → parts ≡ tree ∷ [] → end ≡ prim_size profile p → let row : Row = record { parts = parts; end = end } in row ≡ record { parts = tag_form profile (tag_layout profile tag).size value ∷ []; end = (tag_layout profile tag).size }
tag-row profile tag value p tree parts end is made one sized =
    let own : prim_size profile p ≡ (tag_layout profile tag).size = ap (prim_size profile) is ∙ tag-sized profile tag in
    let same : parts ≡ tag_form profile (tag_layout profile tag).size value ∷ [] = one ∙ ap (λ t. t ∷ []) (made ∙ ap (λ (n : ℕ). tag_form profile n value) own) in
    let ends : end ≡ (tag_layout profile tag).size = sized ∙ own in
    cc

tag-integer : (p : Primitive) → is_tag_type p ≡ true → is_integer p ≡ true
tag-integer U128 e = cc
tag-integer I128 e = cc
tag-integer p e = e

type-integer : (repr : Repr) (vs : List Variant) (tag : Option Primitive) → is_tag_in_form repr vs tag ≡ true → is_integer (tag_type tag) ≡ true
type-integer repr vs None e = refl
type-integer repr vs (Some p) e = tag-integer p (first_true (is_tag_type p) _ e)

module _ (profile : Profile) (part : Ground → Expanded) where
  i32-at : (vs : List Variant) (types : List (List Ground)) (i : ℕ) (v : Variant) (gs : List Ground) → passes_i32 (variants_of part vs types) ≡ false → slice_get vs i ≡ Some v → slice_get types i ≡ Some gs → fits_signed 4 v.value ≡ true
  i32-at [] types i v gs e at_v at_gs = cc
  i32-at (u ∷ vs) [] i v gs e at_v at_gs = cc
  i32-at (u ∷ vs) (hs ∷ types) zero v gs e at_v at_gs =
      let same : u ≡ v = cc in
      ap (λ x. fits_signed 4 x.value) (sym same) ∙ not-false (fits_signed 4 u.value) (none-first (not (fits_signed 4 u.value)) (passes_i32 (variants_of part vs types)) e)
  i32-at (u ∷ vs) (hs ∷ types) (suc i) v gs e at_v at_gs = i32-at vs types i v gs (none-second (not (fits_signed 4 u.value)) (passes_i32 (variants_of part vs types)) e) at_v at_gs

  fits-at : (repr : Repr) (tag : Option Primitive) (vs : List Variant) (types : List (List Ground)) (i : ℕ) (v : Variant) (gs : List Ground)
      → not (repr.c || is_some tag) ≡ false → (repr.c && is_none tag && passes_i32 (variants_of part vs types)) ≡ false → is_value_in_form profile tag v.value ≡ true
      → slice_get vs i ≡ Some v → slice_get types i ≡ Some gs → fits_integer profile (tag_type tag) v.value ≡ true
  fits-at repr (Some p) vs types i v gs lacks range value at_v at_gs = value
  fits-at repr None vs types i v gs lacks range value at_v at_gs = i32-at vs types i v gs (only-c profile part repr.c (passes_i32 (variants_of part vs types)) lacks range) at_v at_gs

-- ---- places

all-at : {X : Type 0} (P : X → Type 0) (xs : List X) (i : ℕ) (x : X) → AllByRecursion P xs → slice_get xs i ≡ Some x → P x
all-at P [] i x all at = cc
all-at P (y ∷ xs) zero x (here, others) at = let same : y ≡ x = cc in subst P same here
all-at P (y ∷ xs) (suc i) x (here, others) at = all-at P xs i x others at

-- ---- an enum of a world

module _ (tables : Tables) (id : NamedId) (size : ℕ) (def : Def) (types : List (List Ground)) (is : IsSizedDefinition tables id size def types) (kind : def.kind ≡ Enum) where
  abbrev part : Ground → Expanded
  part = expanded_in tables

  abbrev cases : Variants
  cases = variants_of part def.variants types

  pub tag-is_integer : is_integer (tag_type def.repr.tag) ≡ true
  tag-is_integer = type-integer def.repr def.variants def.repr.tag (second_true _ (is_tag_in_form def.repr def.variants def.repr.tag) (first_true _ _ (in_repr tables id def types is.definition kind)))

  no_cause : has_cause (named tables.profile id Enum def.repr cases) ≡ false
  no_cause = none-first (has_cause (named tables.profile id Enum def.repr cases)) (some_part has_cause (named tables.profile id Enum def.repr cases)) (ap has_no_layout (sym (enum-whole tables id def types is.definition kind)) ∙ is.definition.sound)

  module _ (i : ℕ) (v : Variant) (gs : List Ground) (at_v : slice_get def.variants i ≡ Some v) (at_gs : slice_get types i ≡ Some gs) where
    value-form : is_value_in_form tables.profile def.repr.tag v.value ≡ true
    value-form =
        list_all-at (λ u. is_value_in_form tables.profile def.repr.tag u.value) def.variants i v
        (second_true _ (list_all (λ u. is_value_in_form tables.profile def.repr.tag u.value) def.variants) (first_true _ _ (first_true _ _ is.definition.in_form))) at_v

    -- a tag holds its variant's value
    pub tag-fits : fits_integer tables.profile (tag_type def.repr.tag) v.value ≡ true
    tag-fits =
        let own = none-first (is_some (own_fault (named tables.profile id Enum def.repr cases))) (is_some (layout_fault (named tables.profile id Enum def.repr cases))) no_cause in
        let (lacks, range) = no-either (when (lacks_repr Enum def.repr) _) (when (lacks_range Enum def.repr cases) _) own in
        fits-at tables.profile part def.repr def.repr.tag def.variants types i v gs (no-when (lacks_repr Enum def.repr) _ lacks) (no-when (lacks_range Enum def.repr cases) _ range) value-form at_v at_gs

    abbrev begin : ℕ
    begin = fields_place tables.profile def.repr cases

    abbrev tag : ℕ
    tag = (tag_layout tables.profile def.repr.tag).size

    abbrev members : List Layout
    members = field_layouts (fields_of part v.fields gs)

    variant-apart : Apart tag (variant_places tables.profile def.repr begin members) members size
    variant-apart =
        subst (λ (n : ℕ). Apart tag (variant_places tables.profile def.repr begin members) members n) (sym (is.size ∙ ap size_of (enum-whole tables id def types is.definition kind)))
        (all-at (λ ls. Apart tag (variant_places tables.profile def.repr begin ls) ls (size_of (named tables.profile id Enum def.repr cases))) (variant_layouts cases) i members
        (variants-apart tables.profile id def.repr cases) (layouts-at part def.variants types i v gs at_v at_gs))

    -- the fields of a variant stand apart behind the tag, and inside the enum
    pub variant-fields : AreFieldsWithin tables id i tag size gs
    variant-fields =
        let same = layouts-same part v.fields gs (typed tables id def types is.definition kind i v gs at_v at_gs) in
        record {
          fields = fields-of tables id def types is.definition kind i v gs at_v at_gs;
          apart = subst (λ ps. Apart tag ps (field_layouts (elements part gs)) size) (sym (variant-places tables id def types is.definition kind i v gs at_v at_gs))
              (subst (λ ls. Apart tag (variant_places tables.profile def.repr begin members) ls size) same variant-apart);
        }

    -- their trees are those of the variant
    pub variant-made : field_parts size tag (places_at (part (Named id)) i) (elements part gs) ≡ field_parts size tag (variant_places tables.profile def.repr begin members) (fields_of part v.fields gs)
    variant-made =
        ap (λ ps. field_parts size tag ps (elements part gs)) (variant-places tables id def types is.definition kind i v gs at_v at_gs) ∙ sym (placed-same part size tag (variant_places tables.profile def.repr begin members) v.fields gs (typed tables id def types is.definition kind i v gs at_v at_gs))

  -- the trees of the enum are its ways
  pub enum-made : one_of (variant_ways tables.profile def.repr (fields_place tables.profile def.repr cases) size cases) ∷ [] ≡ parts_of (part (Named id))
  unfolding parts_of
  enum-made =
      ap (λ (n : ℕ). one_of (variant_ways tables.profile def.repr (fields_place tables.profile def.repr cases) n cases) ∷ []) (is.size ∙ ap size_of (enum-whole tables id def types is.definition kind)) ∙ ap parts_of (sym (enum-whole tables id def types is.definition kind))
