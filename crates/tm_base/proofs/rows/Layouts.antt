-- Sizes, alignments and places of the worked rows.
use Rattle.std.proofs.Common.{◌≡◌, refl, true, None, Some, [], ◌∷◌, pos}
use Rattle.tm_base.specs.Expanded.{array, no_fields, no_variants, variant}
use Rattle.tm_base.specs.Layout.{size_of, align_of, layout_of}
use Rattle.tm_base.specs.Places.{place_of, places_of}
use Rattle.tm_base.proofs.rows.Types.{repr_c, repr_u8, repr_align, u8, u16, u32, bytes, reference, option, struct, union, enum, one, two, padded, only_value, either_bit, c_enum, packed_pair, with_reference, header, message, port}

padded-size : size_of padded ≡ 4
unfolding layout_of
padded-size = refl

padded-align : align_of padded ≡ 2
unfolding layout_of
padded-align = refl

padded-places : places_of padded ≡ (0 ∷ 2 ∷ []) ∷ []
unfolding layout_of
padded-places = refl

-- `packed` lowers each field's alignment
packed_pair-size : size_of packed_pair ≡ 3
unfolding layout_of
packed_pair-size = refl

packed_pair-places : places_of packed_pair ≡ (0 ∷ 1 ∷ []) ∷ []
unfolding layout_of
packed_pair-places = refl

-- with `C` the tag stands once, in front of the union of the variants
c_enum-size : size_of c_enum ≡ 8
unfolding layout_of
c_enum-size = refl

c_enum-places : places_of c_enum ≡ (4 ∷ []) ∷ (4 ∷ []) ∷ []
unfolding layout_of
c_enum-places = refl

-- with an integer alone each variant begins with the tag
message-size : size_of message ≡ 4
unfolding layout_of
message-size = refl

message-places : places_of message ≡ [] ∷ (2 ∷ []) ∷ (1 ∷ []) ∷ []
unfolding layout_of
message-places = refl

-- where the two differ: { A(u8, u16), B(u8) } behind a tag of one byte
tag_of_each-places : places_of (enum repr_u8 (variant (pos 0) (two u8 u16) (variant (pos 1) (one u8) no_variants))) ≡ (1 ∷ 2 ∷ []) ∷ (1 ∷ []) ∷ []
unfolding layout_of
tag_of_each-places = refl

tag_once-places : places_of (enum (record repr_u8 { c = true }) (variant (pos 0) (two u8 u16) (variant (pos 1) (one u8) no_variants))) ≡ (2 ∷ 4 ∷ []) ∷ (2 ∷ []) ∷ []
unfolding layout_of
tag_once-places = refl

-- an enum without fields is its tag
only_value-size : size_of (only_value 2) ≡ 1
unfolding layout_of
only_value-size = refl

plain_tag-size : size_of (enum repr_c (variant (pos 0) no_fields no_variants)) ≡ 4
unfolding layout_of
plain_tag-size = refl

either_bit-size : size_of either_bit ≡ 1
unfolding layout_of
either_bit-size = refl

with_reference-size : size_of with_reference ≡ 16
unfolding layout_of
with_reference-size = refl

with_reference-place : place_of with_reference 0 1 ≡ Some 8
unfolding layout_of
with_reference-place = refl

no_such_place : place_of with_reference 0 2 ≡ None
unfolding layout_of
no_such_place = refl

header-size : size_of header ≡ 8
unfolding layout_of
header-size = refl

-- a transparent struct has its field's layout, `NonZero` its integer's, `Option` its argument's
port-size : size_of port ≡ 2
unfolding layout_of
port-size = refl

option-size : size_of (option (reference 0)) ≡ 8
unfolding layout_of
option-size = refl

-- `align` raises the size too; on a struct without bytes it is no size at all
aligned-size : size_of (struct (repr_align 536870912) (one u8)) ≡ 536870912
unfolding layout_of
aligned-size = refl

aligned_empty-size : size_of (struct (repr_align 536870912) no_fields) ≡ 0
unfolding layout_of
aligned_empty-size = refl

-- a union is as large as its largest field, rounded up to the greatest alignment
union-size : size_of (union repr_c (two (bytes 5) u16)) ≡ 6
unfolding layout_of
union-size = refl

-- no bytes, but an alignment: the field stands at the next place that is one
empty_aligned-places : places_of (struct repr_c (two u8 (array u32 0))) ≡ (0 ∷ 4 ∷ []) ∷ []
unfolding layout_of
empty_aligned-places = refl

array-size : size_of (array padded 3) ≡ 12
unfolding layout_of
array-size = refl
