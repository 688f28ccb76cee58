-- Where the fields of a type stand, in bytes from its first: the Rust Reference, "Type layout".
use Rattle.std.specs.Prelude.{ℕ, ◌+◌, if◌then◌else◌, Option, None, List, [], map, slice_get, option_and_then}
use Rattle.tm_base.specs.declared.definition.Kind.{Kind}
use Rattle.tm_base.specs.declared.definition.Kind.TheVariants.{Struct, Union, Enum}
use Rattle.tm_base.specs.declared.definition.Repr.{Repr}
use Rattle.tm_base.specs.Expanded.{Expanded, Variants, named}
use Rattle.tm_base.specs.declared.profile.Profile.{Profile}
use Rattle.tm_base.specs.Layout.{Layout, round_up, places, greatest_align, structs, tag_layout, variant_layouts}

-- Where the fields of an enum's variants begin: with `repr(C)` in a union of their own, which is
-- behind the tag; else right behind the tag, in one struct with it.
abbrev pub fields_place : Profile → Repr → Variants → ℕ
fields_place profile r variants =
    if r.c
    then round_up (tag_layout profile r.tag).size (greatest_align None (structs [] (variant_layouts variants)))
    else (tag_layout profile r.tag).size

-- and at which place of their own struct that is
abbrev pub first_place : Profile → Repr → ℕ
first_place profile r = if r.c then 0 else (tag_layout profile r.tag).size

-- each field at the front
abbrev pub at_front : List Layout → List ℕ
at_front fields = map (λ l. 0) fields

-- Behind a tag with an integer alone each variant is a struct that the tag begins. With `C` it is one
-- of a union that stands behind the tag.
abbrev pub variant_places : Profile → Repr → ℕ → List Layout → List ℕ
variant_places profile repr begin fields =
    if repr.c then map (λ place. begin + place) (places None 0 fields) else places None (first_place profile repr) fields

-- for each variant, where each of its fields stands
abbrev pub named_places : Profile → Kind → Repr → Variants → List (List ℕ)
named_places profile Struct repr variants = map (if repr.transparent then at_front else places repr.packed 0) (variant_layouts variants)
named_places profile Union repr variants = map at_front (variant_layouts variants)
named_places profile Enum repr variants = map (variant_places profile repr (fields_place profile repr variants)) (variant_layouts variants)

-- for each variant of a type, where each of its fields stands
abbrev pub places_of : Expanded → List (List ℕ)
places_of (named profile id kind repr variants) = named_places profile kind repr variants
places_of t = []

-- where a field of a variant stands, both counted from 0, where there is such a field
abbrev pub place_of : Expanded → ℕ → ℕ → Option ℕ
place_of t variant_number field_number = option_and_then (λ fields. slice_get fields field_number) (slice_get (places_of t) variant_number)
