-- Which items of `repr` attributes go together on a definition, in any order: those of the Rust
-- Reference, "Type layout", that this project takes. None at all is in form.
use Rattle.std.specs.Prelude.{Bool, true, false, ◌&&◌, if◌then◌else◌, nat_lt, Option, Some, None, List, [], ◌∷◌, length, map}
use Rattle.tm_base.specs.declared.definition.Kind.{Kind}
use Rattle.tm_base.specs.declared.definition.Kind.TheVariants.{Struct, Union, Enum}
use Rattle.tm_base.specs.declared.ground.Primitive.{Primitive}
use Rattle.tm_base.specs.Integers.{is_tag_type}
use Rattle.tm_base.specs.Whole.{is_alignment}
use Rattle.std.specs.List.{list_any}
use Rattle.std.specs.Option.{option_or}
use Rattle.tm_parse.specs.declared.parsed.Decl.{Decl}
use Rattle.tm_parse.specs.declared.parsed.DeclVariant.{DeclVariant}
use Rattle.tm_parse.specs.declared.parsed.ReprItem.{ReprItem}
use Rattle.tm_parse.specs.declared.parsed.ReprItem.TheVariants.{C, Transparent, Int, Packed, Align}

-- the items of all `repr` attributes of a definition
abbrev pub items_of : Decl → List ReprItem
items_of d = map (λ repr. repr.item) d.reprs

-- some variant has a field
abbrev pub has_field : List DeclVariant → Bool
has_field variants = list_any (λ v. nat_lt 0 (length v.fields)) variants

-- a union: one item, or `C` beside one; the number of `packed` and of `align` is in its range
abbrev pub is_union_form : List ReprItem → Bool
is_union_form [] = true
is_union_form (C ∷ []) = true
is_union_form (Packed n ∷ []) = is_alignment n
is_union_form (Align n ∷ []) = is_alignment n
is_union_form (C ∷ Packed n ∷ []) = is_alignment n
is_union_form (Packed n ∷ C ∷ []) = is_alignment n
is_union_form (C ∷ Align n ∷ []) = is_alignment n
is_union_form (Align n ∷ C ∷ []) = is_alignment n
is_union_form items = false

-- a struct: besides, `transparent` alone
abbrev pub is_struct_form : List ReprItem → Bool
is_struct_form (Transparent ∷ []) = true
is_struct_form items = is_union_form items

-- an enum with a variant: `C`, an integer of at most 64 bits, or both where some variant has a field
abbrev pub is_enum_form : List DeclVariant → List ReprItem → Bool
is_enum_form variants [] = true
is_enum_form variants (C ∷ []) = nat_lt 0 (length variants)
is_enum_form variants (Int p ∷ []) = is_tag_type p && nat_lt 0 (length variants)
is_enum_form variants (C ∷ Int p ∷ []) = is_tag_type p && has_field variants
is_enum_form variants (Int p ∷ C ∷ []) = is_tag_type p && has_field variants
is_enum_form variants items = false

abbrev pub is_form : Kind → List DeclVariant → List ReprItem → Bool
is_form Struct variants items = is_struct_form items
is_form Union variants items = is_union_form items
is_form Enum variants items = is_enum_form variants items

-- the items of a definition are in form
abbrev pub is_repr_in_form : Decl → Bool
is_repr_in_form d = is_form d.kind d.variants (items_of d)

-- an integer of at most 64 bits
abbrev pub tag_of_item : ReprItem → Option Primitive
tag_of_item (Int p) = if is_tag_type p then Some p else None
tag_of_item item = None

-- The integer representation: the first integer of at most 64 bits. A wider one is never in form, and
-- its fault stands before the enum's variants.
abbrev pub tag_in : List ReprItem → Option Primitive
tag_in [] = None
tag_in (item ∷ items) = option_or (tag_of_item item) (tag_in items)

abbrev pub tag_of : Decl → Option Primitive
tag_of d = tag_in (items_of d)
