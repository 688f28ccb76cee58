-- An enum by its definition: how many bytes its tag has, and where the fields of a variant stand.
use Rattle.std.proofs.Common.{◌≡◌, ℕ, ◌≤◌, sym, ◌∙◌, ap, Bool, true, List, Option, Some, None, slice_get, arith}
use Rattle.tm_base.specs.declared.definition.Def.{Def}
use Rattle.tm_base.specs.declared.definition.Kind.TheVariants.{Enum}
use Rattle.tm_base.specs.declared.definition.Repr.{Repr}
use Rattle.tm_base.specs.declared.definition.Variant.{Variant}
use Rattle.tm_base.specs.declared.ground.Ground.{Ground, Named}
use Rattle.tm_base.specs.declared.ground.NamedId.{NamedId}
use Rattle.tm_base.specs.declared.ground.Primitive.{Primitive}
use Rattle.tm_base.specs.declared.ground.Primitive.TheVariants as primitive
use Rattle.tm_base.specs.declared.profile.Profile.{Profile}
use Rattle.tm_base.specs.declared.profile.Profile.TheVariants.{Le64, Be64, Le32}
use Rattle.tm_base.specs.Cells.{Word}
use Rattle.tm_base.specs.Expanded.{Expanded, Variants, elements, fields_of, variants_of}
use Rattle.tm_base.specs.Integers.{is_tag_type}
use Rattle.tm_base.specs.Layout.{Layout, field_layouts, places, prim_size, tag_layout}
use Rattle.tm_base.specs.Places.{fields_place, variant_places}
use Rattle.tm_base.specs.Tables.{Tables, expanded_in}
use Rattle.tm_base.specs.Whole.{is_tag_in_form}
use Rattle.tm_layout.proofs.RowLemmas.{first_true, second_true}
use Rattle.tm_layout.proofs.EnumFieldLemmas.{enum-whole, in_repr, typed, variant-places}
use Rattle.tm_check.specs.Begins.{begins, fields_begin, some_variant_begins}
use Rattle.tm_layout.specs.LaidOut.{IsDefinition, places_at}
use Rattle.tm_check.proofs.DefinedLemmas.{fields-same}

tag-type-small : (profile : Profile) (p : Primitive) → is_tag_type p ≡ true → prim_size profile p ≤ 8
tag-type-small Le64 primitive.Usize e = omega arith
tag-type-small Be64 primitive.Usize e = omega arith
tag-type-small Le32 primitive.Usize e = omega arith
tag-type-small Le64 primitive.Isize e = omega arith
tag-type-small Be64 primitive.Isize e = omega arith
tag-type-small Le32 primitive.Isize e = omega arith
tag-type-small profile primitive.U128 e = cc
tag-type-small profile primitive.I128 e = cc
tag-type-small profile p e = omega arith

tag-size-small : (profile : Profile) (repr : Repr) (vs : List Variant) (tag : Option Primitive) → is_tag_in_form repr vs tag ≡ true → (tag_layout profile tag).size ≤ 8
tag-size-small profile repr vs None e = omega arith
tag-size-small profile repr vs (Some p) e = tag-type-small profile p (first_true (is_tag_type p) _ e)

module _ (tables : Tables) (id : NamedId) (def : Def) (types : List (List Ground)) (is : IsDefinition tables id def types) (kind : def.kind ≡ Enum) where
  abbrev part : Ground → Expanded
  part = expanded_in tables

  abbrev cases : Variants
  cases = variants_of part def.variants types

  pub tag-small : (tag_layout tables.profile def.repr.tag).size ≤ 8
  tag-small = tag-size-small tables.profile def.repr def.variants def.repr.tag (second_true _ (is_tag_in_form def.repr def.variants def.repr.tag) (first_true _ _ (in_repr tables id def types is kind)))

  -- an enum begins with one of its variants
  pub enum-begins : (A : ℕ → ℕ → Bool) (keep : Bool) (w : Word)
      → begins A keep (part (Named id)) w ≡ some_variant_begins A keep tables.profile def.repr (fields_place tables.profile def.repr cases) cases w
  unfolding begins
  enum-begins A keep w = ap (λ t. begins A keep t w) (enum-whole tables id def types is kind)

  module _ (i : ℕ) (v : Variant) (gs : List Ground) (at_v : slice_get def.variants i ≡ Some v) (at_gs : slice_get types i ≡ Some gs) where
    abbrev begin : ℕ
    begin = fields_place tables.profile def.repr cases

    abbrev members : List Layout
    members = field_layouts (fields_of part v.fields gs)

    -- the fields of a variant, in their places, begin with what its types do
    pub variant-same : (A : ℕ → ℕ → Bool) (keep : Bool) (at : ℕ) (w : Word)
        → fields_begin A keep at (places_at (part (Named id)) i) (elements part gs) w ≡ fields_begin A keep at (variant_places tables.profile def.repr begin members) (fields_of part v.fields gs) w
    variant-same A keep at w =
        ap (λ ps. fields_begin A keep at ps (elements part gs) w) (variant-places tables id def types is kind i v gs at_v at_gs) ∙ sym (fields-same part A keep at (variant_places tables.profile def.repr begin members) v.fields gs w (typed tables id def types is kind i v gs at_v at_gs))
