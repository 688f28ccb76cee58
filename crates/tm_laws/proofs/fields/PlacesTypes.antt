-- In a type without a fault the fields of each type that is held by value stand apart.
use Rattle.std.proofs.Common.{◌≡◌, ℕ, zero, suc, refl, sym, ◌∙◌, ap, subst, Bool, true, false, ◌||◌, if◌then◌else◌, Option, Some, None, List, slice_get}
use Rattle.std.specs.Option.{option_and_then}
use Rattle.std.proofs.lemmas.Bool.{or_from}
use Rattle.std.proofs.lemmas.Option.{slice_get-map, option_and_then_some}
use Rattle.std.specs.Option.{option_map}
use Rattle.tm_base.specs.declared.answer.Why.{Why}
use Rattle.tm_base.specs.declared.answer.Why.TheVariants.{TransparentFields}
use Rattle.tm_base.specs.declared.definition.Kind.TheVariants.{Struct, Union, Enum}
use Rattle.tm_base.specs.declared.definition.Repr.{Repr}
use Rattle.tm_base.specs.declared.ground.NamedId.{NamedId}
use Rattle.tm_base.specs.Expanded.{Expanded, Fields, Variants, too_deep, prim, never, unit, tuple, array, nonzero, phantom, wrap, ref, named, no_fields, field, no_variants, variant}
use Rattle.tm_base.specs.declared.profile.Profile.{Profile}
use Rattle.tm_base.specs.Faults.{fault_of, own_fault, layout_fault, has_cause, has_two_sized, or_else, when}
use Rattle.tm_base.specs.Layout.{Layout, places, size_of, tag_layout, layout_of, field_layouts, variant_layouts}
use Rattle.tm_base.specs.Parts.{some_part, some_field, some_variant}
use Rattle.tm_base.specs.Places.{at_front, places_of, variant_places, fields_place}
use Rattle.tm_base.proofs.FaultLemmas.{cause-faulty}
use Rattle.tm_laws.specs.PlacesApart.{fields_of_type, tag_size, AreOrdered, HasFieldsApart, EachPart, EachField, EachVariant, EachWithin, HasNoFault}
use Rattle.tm_laws.proofs.fields.PlacesLemmas.{AreGood, good-struct, good-union, good-enum}

-- the places of one variant, which are good
abbrev HasGood : Expanded → ℕ → List Layout → Type 0
HasGood t v ls = (ps : List ℕ) × (slice_get (places_of t) v ≡ Some ps) × AreGood (tag_size t) (size_of t) (AreOrdered t) ps ls

-- where the fields of each variant stand well, those of the type do
fields-apart : (t : Expanded) → ((v : ℕ) (ls : List Layout) → slice_get (fields_of_type t) v ≡ Some ls → HasGood t v ls) → HasFieldsApart t
fields-apart t good = record {
  inside = λ v f l e. option_and_then_some (λ (fields : List Layout). slice_get fields f) (slice_get (fields_of_type t) v) l e (λ ls at_ls at_l.
      let g = good v ls at_ls in
      let found = g.2.inside f l at_l in
      (found.0, ap (option_and_then (λ (ps : List ℕ). slice_get ps f)) g.1 ∙ found.1, found.2, found.3));
  apart = λ v f g l m place later less e i j k. option_and_then_some (λ (fields : List Layout). slice_get fields f) (slice_get (fields_of_type t) v) l e (λ ls at_ls at_l.
      let good_here = good v ls at_ls in
      let at_m = sym (ap (option_and_then (λ (fields : List Layout). slice_get fields g)) at_ls) ∙ i in
      let at_place = sym (ap (option_and_then (λ (ps : List ℕ). slice_get ps f)) good_here.1) ∙ j in
      let at_later = sym (ap (option_and_then (λ (ps : List ℕ). slice_get ps g)) good_here.1) ∙ k in
      good_here.2.ordered f g l m place later less at_l at_m at_place at_later);
}

-- ---- by kind

struct-variant : (profile : Profile) (id : NamedId) (repr : Repr) (vs : Variants) → has_two_sized (named profile id Struct repr vs) ≡ false → (v : ℕ) (ls : List Layout)
    → slice_get (fields_of_type (named profile id Struct repr vs)) v ≡ Some ls → HasGood (named profile id Struct repr vs) v ls
unfolding layout_of
struct-variant profile id repr no_variants h v ls e = absurd cc
struct-variant profile id repr (variant value members others) h (suc v) ls e = absurd cc
struct-variant profile id repr (variant value members others) h zero ls e =
    let same : field_layouts members ≡ ls = cc in
    subst (HasGood (named profile id Struct repr (variant value members others)) 0) same
    ((if repr.transparent then at_front else places repr.packed 0) (field_layouts members), refl, good-struct repr.transparent repr.packed repr.align (field_layouts members) h)

union-variant : (profile : Profile) (id : NamedId) (repr : Repr) (vs : Variants) (v : ℕ) (ls : List Layout)
    → slice_get (fields_of_type (named profile id Union repr vs)) v ≡ Some ls → HasGood (named profile id Union repr vs) v ls
unfolding layout_of
union-variant profile id repr no_variants v ls e = absurd cc
union-variant profile id repr (variant value members others) (suc v) ls e = absurd cc
union-variant profile id repr (variant value members others) zero ls e =
    let same : field_layouts members ≡ ls = cc in
    subst (HasGood (named profile id Union repr (variant value members others)) 0) same
    (at_front (field_layouts members), refl, good-union repr.packed repr.align (field_layouts members))

enum-variant : (profile : Profile) (id : NamedId) (repr : Repr) (vs : Variants) (v : ℕ) (ls : List Layout)
    → slice_get (fields_of_type (named profile id Enum repr vs)) v ≡ Some ls → HasGood (named profile id Enum repr vs) v ls
unfolding layout_of
enum-variant profile id repr vs v ls e = (
  variant_places profile repr (fields_place profile repr vs) ls,
  slice_get-map (variant_places profile repr (fields_place profile repr vs)) (variant_layouts vs) v ∙ ap (option_map (variant_places profile repr (fields_place profile repr vs))) e,
  good-enum repr.c (tag_layout profile repr.tag) (variant_layouts vs) v ls e,
)

type-apart : (t : Expanded) → has_two_sized t ≡ false → HasFieldsApart t
type-apart (named profile id Struct repr vs) h = fields-apart (named profile id Struct repr vs) (struct-variant profile id repr vs h)
type-apart (named profile id Union repr vs) h = fields-apart (named profile id Union repr vs) (union-variant profile id repr vs)
type-apart (named profile id Enum repr vs) h = fields-apart (named profile id Enum repr vs) (enum-variant profile id repr vs)
type-apart t h = fields-apart t (λ v ls e. absurd cc)

-- ---- faults

or_else-second : (a b : Option Why) → or_else a b ≡ None → b ≡ None
or_else-second None b h = h
or_else-second (Some why) b h = absurd cc

first_cause : (b : Bool) (why : Why) (other : Option Why) → or_else (when b why) other ≡ None → b ≡ false
first_cause false why other h = refl
first_cause true why other h = absurd cc

-- a type without a fault, none of whose parts is at fault, isn't a transparent struct of two fields with bytes
one_sized-field : (t : Expanded) → HasNoFault t → some_part has_cause t ≡ false → has_two_sized t ≡ false
unfolding fault_of
one_sized-field t h parts =
    let whole : or_else (own_fault t) (if some_part has_cause t then None else layout_fault t) ≡ None = h in
    let here : or_else (own_fault t) (layout_fault t) ≡ None = subst (λ (b : Bool). or_else (own_fault t) (if b then None else layout_fault t) ≡ None) parts whole in
    first_cause (has_two_sized t) TransparentFields _ (or_else-second (own_fault t) (layout_fault t) here)

-- a type without a fault whose parts have no cause has none
no_cause : (t : Expanded) → HasNoFault t → some_part has_cause t ≡ false → (has_cause t || some_part has_cause t) ≡ false
no_cause t h parts = cause-faulty t ∙ rw (h, parts) refl

mutual
  unfolding EachPart some_part

  parts-sound : (t : Expanded) → EachPart HasNoFault t → some_part has_cause t ≡ false
  parts-sound too_deep h = refl
  parts-sound (prim profile p) h = refl
  parts-sound never h = refl
  parts-sound unit h = refl
  parts-sound (tuple members) h = fields-sound members h
  parts-sound (array t n) (none, parts) = no_cause t none (parts-sound t parts)
  parts-sound (nonzero profile p) h = refl
  parts-sound phantom h = refl
  parts-sound (wrap w t) (none, parts) = no_cause t none (parts-sound t parts)
  parts-sound (ref profile r) h = refl
  parts-sound (named profile id kind repr vs) h = variants-sound vs h

  fields-sound : (members : Fields) → EachField HasNoFault members → some_field has_cause members ≡ false
  fields-sound no_fields h = refl
  fields-sound (field public t rest) (none, parts, others) =
      or_from (has_cause t || some_part has_cause t) (some_field has_cause rest) (no_cause t none (parts-sound t parts)) (fields-sound rest others)

  variants-sound : (vs : Variants) → EachVariant HasNoFault vs → some_variant has_cause vs ≡ false
  variants-sound no_variants h = refl
  variants-sound (variant value members rest) (here, others) =
      or_from (some_field has_cause members) (some_variant has_cause rest) (fields-sound members here) (variants-sound rest others)

-- the fields of one type stand apart, where neither it nor a part of it is at fault
pub apart-here : (t : Expanded) → HasNoFault t → EachPart HasNoFault t → HasFieldsApart t
apart-here t none parts = type-apart t (one_sized-field t none (parts-sound t parts))

mutual
  unfolding EachPart

  parts-apart : (t : Expanded) → EachPart HasNoFault t → EachPart HasFieldsApart t
  parts-apart too_deep h = h
  parts-apart (prim profile p) h = h
  parts-apart never h = h
  parts-apart unit h = h
  parts-apart (tuple members) h = fields-each_apart members h
  parts-apart (array t n) (none, parts) = (apart-here t none parts, parts-apart t parts)
  parts-apart (nonzero profile p) h = h
  parts-apart phantom h = h
  parts-apart (wrap w t) (none, parts) = (apart-here t none parts, parts-apart t parts)
  parts-apart (ref profile r) h = h
  parts-apart (named profile id kind repr vs) h = variants-each_apart vs h

  fields-each_apart : (members : Fields) → EachField HasNoFault members → EachField HasFieldsApart members
  fields-each_apart no_fields h = h
  fields-each_apart (field public t rest) (none, parts, others) = (apart-here t none parts, parts-apart t parts, fields-each_apart rest others)

  variants-each_apart : (vs : Variants) → EachVariant HasNoFault vs → EachVariant HasFieldsApart vs
  variants-each_apart no_variants h = h
  variants-each_apart (variant value members rest) (here, others) = (fields-each_apart members here, variants-each_apart rest others)

-- where no type that is held by value is at fault, the fields of each stand apart in it
pub places-stand_apart : (t : Expanded) → EachWithin HasNoFault t → EachWithin HasFieldsApart t
places-stand_apart t (none, parts) = (apart-here t none parts, parts-apart t parts)
