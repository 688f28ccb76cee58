-- Faults, weights and interiors of the worked rows' types.
use Rattle.std.proofs.Common.{◌≡◌, refl, true, false, None, Some, negsuc}
use Rattle.tm_base.specs.declared.answer.Why.TheVariants.{NoRepr, Tuple, OptionNotListed, CEnumRange, TransparentFields, PackedHoldsAlign, TooLarge}
use Rattle.tm_base.specs.declared.ground.Wrapper.TheVariants as w
use Rattle.tm_base.specs.Expanded.{unit, tuple, array, phantom, wrap, no_fields, no_variants, variant}
use Rattle.tm_base.specs.Faults.{fault_of, has_cause, is_nullable}
use Rattle.tm_base.specs.Layout.{layout_of}
use Rattle.tm_base.specs.Parts.{some_part, has_interior, some_within, has_alternatives}
use Rattle.tm_base.specs.Weight.{weight_of}
use Rattle.tm_base.proofs.rows.Types.{repr_none, repr_c, repr_packed, repr_align, repr_transparent, the_bool, u8, u32, bytes, reference, option, struct, union, enum, one, two, only_value, c_enum, past_i32, header, message, port}

-- `Option` is listed where its argument has no word of bytes 00
option_of_bool : fault_of (option the_bool) ≡ Some OptionNotListed
unfolding fault_of some_part is_nullable weight_of layout_of
option_of_bool = refl

option_of_reference : fault_of (option (reference 0)) ≡ None
unfolding fault_of some_part is_nullable weight_of layout_of
option_of_reference = refl

option_of_port : fault_of (option port) ≡ None
unfolding fault_of some_part is_nullable weight_of layout_of
option_of_port = refl

option_of_option : fault_of (option (option (reference 0))) ≡ Some OptionNotListed
unfolding fault_of some_part is_nullable weight_of layout_of
option_of_option = refl

tuple-fault : fault_of (tuple (two u8 u8)) ≡ Some Tuple
unfolding fault_of some_part is_nullable weight_of layout_of
tuple-fault = refl

-- the argument of `PhantomData` is no part
phantom-fault : fault_of phantom ≡ None
unfolding fault_of some_part is_nullable weight_of layout_of
phantom-fault = refl

no_repr-fault : fault_of (struct repr_none (two u8 u32)) ≡ Some NoRepr
unfolding fault_of some_part is_nullable weight_of layout_of
no_repr-fault = refl

-- asked whatever the parts are
no_repr_over_fault : fault_of (struct repr_none (one (option the_bool))) ≡ Some NoRepr
unfolding fault_of some_part is_nullable weight_of layout_of
no_repr_over_fault = refl

-- a type that holds one at fault isn't at fault for that
c_over_fault : fault_of (struct repr_c (one (option the_bool))) ≡ None
unfolding fault_of some_part is_nullable weight_of layout_of
c_over_fault = refl

c_over_fault-part : some_part has_cause (struct repr_c (one (option the_bool))) ≡ true
unfolding fault_of some_part is_nullable weight_of layout_of
c_over_fault-part = refl

past_i32-fault : fault_of past_i32 ≡ Some CEnumRange
unfolding fault_of some_part is_nullable weight_of layout_of
past_i32-fault = refl

least_i32 : fault_of (enum repr_c (variant (negsuc 2147483647) no_fields no_variants)) ≡ None
unfolding fault_of some_part is_nullable weight_of layout_of
least_i32 = refl

c_enum-fault : fault_of c_enum ≡ None
unfolding fault_of some_part is_nullable weight_of layout_of
c_enum-fault = refl

two_sized_fields : fault_of (struct repr_transparent (two u8 u8)) ≡ Some TransparentFields
unfolding fault_of some_part is_nullable weight_of layout_of
two_sized_fields = refl

one_sized_field : fault_of (struct repr_transparent (two unit u8)) ≡ None
unfolding fault_of some_part is_nullable weight_of layout_of
one_sized_field = refl

-- of size 0, but aligned
two_aligned_fields : fault_of (struct repr_transparent (two (array u32 0) u8)) ≡ Some TransparentFields
unfolding fault_of some_part is_nullable weight_of layout_of
two_aligned_fields = refl

packed_holds_align : fault_of (struct repr_packed (one (array (struct (repr_align 4) (one u8)) 2))) ≡ Some PackedHoldsAlign
unfolding fault_of some_part is_nullable weight_of layout_of
packed_holds_align = refl

-- the limit of weight, and one past it
bytes-whole : fault_of (bytes 65536) ≡ None
unfolding fault_of some_part is_nullable weight_of layout_of
bytes-whole = refl

bytes-too_large : fault_of (bytes 65537) ≡ Some TooLarge
unfolding fault_of some_part is_nullable weight_of layout_of
bytes-too_large = refl

aligned-too_large : fault_of (struct (repr_align 536870912) (one u8)) ≡ Some TooLarge
unfolding fault_of some_part is_nullable weight_of layout_of
aligned-too_large = refl

-- a weight past 32 bits
heavy-weight : weight_of (array (bytes 65536) 4294967295) ≡ 281474976645120
unfolding weight_of layout_of
heavy-weight = refl

-- each variant counts, with its tag, as the whole enum at least
message-weight : weight_of message ≡ 12
unfolding weight_of layout_of
message-weight = refl

maybe-weight : weight_of (wrap w.MaybeUninit (bytes 4)) ≡ 8
unfolding weight_of layout_of
maybe-weight = refl

-- a `Cell` by value, behind a reference, and under `PhantomData`
cell-interior : has_interior (struct repr_c (one (array (wrap w.Cell u8) 0))) ≡ true
unfolding some_part
cell-interior = refl

reference-interior : has_interior (reference 0) ≡ false
unfolding some_part
reference-interior = refl

phantom-interior : has_interior (struct repr_c (one phantom)) ≡ false
unfolding some_part
phantom-interior = refl

-- a union of one field and an enum of one variant leave no choice
header-plain : some_within has_alternatives header ≡ false
unfolding some_part
header-plain = refl

union-plain : some_within has_alternatives (union repr_c (one (only_value 1))) ≡ false
unfolding some_part
union-plain = refl

message-choice : some_within has_alternatives (struct repr_c (one message)) ≡ true
unfolding some_part
message-choice = refl
