-- What the law on places says of the worked rows, and where it wouldn't hold.
use Rattle.std.proofs.Common.{◌≡◌, refl, Some, arith, inl, inr}
use Rattle.tm_base.specs.Expanded.{array}
use Rattle.tm_base.specs.Faults.{fault_of, is_nullable}
use Rattle.tm_base.specs.Layout.{layout_of}
use Rattle.tm_base.specs.Parts.{some_part}
use Rattle.tm_base.specs.Weight.{weight_of}
use Rattle.tm_base.proofs.rows.Types.{repr_transparent, u8, u16, struct, two, padded, c_enum, message}
use Rattle.tm_laws.specs.PlacesApart.{EachPart, EachWithin, HasNoFault, HasFieldsApart, field_layout, tag_size}
use Rattle.tm_laws.proofs.fields.PlacesTypes.{places-stand_apart}

-- the premise can be met, of a struct, of both kinds of enums, and of an array of them
padded-faultless : EachWithin HasNoFault padded
unfolding EachPart fault_of some_part is_nullable weight_of layout_of
padded-faultless = (refl, ((refl, tt, (refl, tt, tt)), tt))

c_enum-faultless : EachWithin HasNoFault c_enum
unfolding EachPart fault_of some_part is_nullable weight_of layout_of
c_enum-faultless = (refl, ((refl, tt, tt), ((refl, tt, tt), tt)))

message-faultless : EachWithin HasNoFault message
unfolding EachPart fault_of some_part is_nullable weight_of layout_of
message-faultless = (refl, (tt, ((refl, tt, tt), ((refl, tt, tt), tt))))

array-faultless : EachWithin HasNoFault (array message 3)
unfolding EachPart fault_of some_part is_nullable weight_of layout_of
array-faultless = (refl, message-faultless)

-- the elements of an array are among the types that are held by value
element-apart : HasFieldsApart message
unfolding EachPart
element-apart = (places-stand_apart (array message 3) array-faultless).1.0

padded-field : field_layout padded 0 1 ≡ Some (record { size = 2; align = 2 })
unfolding layout_of
padded-field = refl

message-field : field_layout message 1 0 ≡ Some (record { size = 2; align = 2 })
unfolding layout_of
message-field = refl

c_enum-tag : tag_size c_enum ≡ 4
c_enum-tag = refl

-- a transparent struct of two fields with bytes is at fault, and its fields overlap
overlapping : HasFieldsApart (struct repr_transparent (two u8 u16)) → ⊥
unfolding layout_of
overlapping apart = elim (apart.apart 0 0 1 (record { size = 1; align = 1 }) (record { size = 2; align = 2 }) 0 0 (omega arith) refl refl refl refl) [
  | inl e ↦ absurd (omega arith)
  | inr e ↦ absurd (omega arith)
]
