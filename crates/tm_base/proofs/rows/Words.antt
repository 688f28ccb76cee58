-- Which words the worked rows' types take.
use Rattle.std.proofs.Common.{◌≡◌, refl, true, false, [], ◌∷◌, ◌++◌, negsuc, replicate}
use Rattle.tm_base.specs.declared.profile.Profile.TheVariants.{Le64}
use Rattle.tm_base.specs.declared.cell.Cell.TheVariants.{Byte, Uninit, Ptr}
use Rattle.tm_base.specs.declared.ground.Primitive.TheVariants as p
use Rattle.tm_base.specs.declared.ground.Wrapper.TheVariants as w
use Rattle.tm_base.specs.Cells.{pointer_of}
use Rattle.tm_base.specs.Expanded.{prim, never, unit, array, nonzero, wrap, no_fields, field, no_variants, variant}
use Rattle.tm_base.specs.Layout.{layout_of}
use Rattle.tm_base.specs.Orders.{list_less}
use Rattle.tm_base.specs.ValidTest.{valid_test}
use Rattle.tm_base.proofs.rows.Types.{repr_c, the_bool, the_char, u8, u16, bytes, reference, option, struct, enum, two, padded, closed, only_value, either_bit, c_enum, packed_pair, message, port, is_source_word, fits}

-- Padding is uninitialised or not, and not taken as 00.
padded-word : is_source_word padded (Byte 0 ∷ Uninit ∷ Byte 0 ∷ Byte 0 ∷ []) ≡ true
unfolding valid_test layout_of list_less
padded-word = refl

padded-no_bytes : fits false (bytes 4) (Byte 0 ∷ Uninit ∷ Byte 0 ∷ Byte 0 ∷ []) ≡ false
unfolding valid_test layout_of list_less
padded-no_bytes = refl

padded-maybe : fits false (wrap w.MaybeUninit (bytes 4)) (Byte 0 ∷ Uninit ∷ Byte 0 ∷ Byte 0 ∷ []) ≡ true
unfolding valid_test layout_of list_less
padded-maybe = refl

-- no byte of a reference stands in padding
padding-no_reference : is_source_word padded (Byte 0 ∷ Ptr (record { 0 = 0 }) 0 ∷ Byte 0 ∷ Byte 0 ∷ []) ≡ false
unfolding valid_test layout_of list_less
padding-no_reference = refl

-- Sizes may differ: a longer source is cut,
longer_is_cut : fits false u8 (Byte 7 ∷ Byte 1 ∷ []) ≡ true
unfolding valid_test layout_of list_less
longer_is_cut = refl

-- and a shorter one isn't made longer by bytes 00.
shorter_lacks_bytes : fits false u16 (Byte 0 ∷ []) ≡ false
unfolding valid_test layout_of list_less
shorter_lacks_bytes = refl

-- the greatest scalar value, the first number past it, and a surrogate
char-last : fits false the_char (Byte 0xFF ∷ Byte 0xFF ∷ Byte 0x10 ∷ Byte 0 ∷ []) ≡ true
unfolding valid_test layout_of list_less
char-last = refl

char-past : fits false the_char (Byte 0 ∷ Byte 0 ∷ Byte 0x11 ∷ Byte 0 ∷ []) ≡ false
unfolding valid_test layout_of list_less
char-past = refl

char-surrogate : fits false the_char (Byte 0 ∷ Byte 0xD8 ∷ Byte 0 ∷ Byte 0 ∷ []) ≡ false
unfolding valid_test layout_of list_less
char-surrogate = refl

bool-two : fits false the_bool (Byte 2 ∷ []) ≡ false
unfolding valid_test layout_of list_less
bool-two = refl

nonzero-zero : fits false (nonzero Le64 p.U16) (Byte 0 ∷ Byte 0 ∷ []) ≡ false
unfolding valid_test layout_of list_less
nonzero-zero = refl

nonzero-one : fits false (nonzero Le64 p.U16) (Byte 0 ∷ Byte 1 ∷ []) ≡ true
unfolding valid_test layout_of list_less
nonzero-one = refl

-- Private types keep their words as a source,
closed-source : is_source_word closed (Byte 2 ∷ []) ≡ true
unfolding valid_test layout_of list_less
closed-source = refl

-- and have none as a target but under `safety`.
closed-target : fits false closed (Byte 2 ∷ []) ≡ false
unfolding valid_test layout_of list_less
closed-target = refl

closed-safe : fits true closed (Byte 2 ∷ []) ≡ true
unfolding valid_test layout_of list_less
closed-safe = refl

-- a private field's type of size 0 counts, and an array of no private values doesn't
private_empty : fits false (struct repr_c (field true u8 (field false unit no_fields))) (Byte 0 ∷ []) ≡ false
unfolding valid_test layout_of list_less
private_empty = refl

array_of_none : fits false (array closed 0) [] ≡ true
unfolding valid_test layout_of list_less
array_of_none = refl

-- a listed `Option` of a private type keeps its word of bytes 00
option_of_port-null : fits false (option port) (Byte 0 ∷ Byte 0 ∷ []) ≡ true
unfolding valid_test layout_of list_less
option_of_port-null = refl

option_of_port-some : fits false (option port) (Byte 1 ∷ Byte 0 ∷ []) ≡ false
unfolding valid_test layout_of list_less
option_of_port-some = refl

-- a field `!` leaves a struct without words
with_never : is_source_word (struct repr_c (two u8 never)) (Byte 0 ∷ []) ≡ false
unfolding valid_test layout_of list_less
with_never = refl

-- One field of a union takes one word, and another field another.
either_bit-zero : fits false either_bit (Byte 0 ∷ []) ≡ true
unfolding valid_test layout_of list_less
either_bit-zero = refl

either_bit-one : fits false either_bit (Byte 1 ∷ []) ≡ true
unfolding valid_test layout_of list_less
either_bit-one = refl

either_bit-two : fits false either_bit (Byte 2 ∷ []) ≡ false
unfolding valid_test layout_of list_less
either_bit-two = refl

first_bit-one : fits false (only_value 0) (Byte 1 ∷ []) ≡ false
unfolding valid_test layout_of list_less
first_bit-one = refl

only_value-other : fits false (only_value 2) (Byte 0 ∷ []) ≡ false
unfolding valid_test layout_of list_less
only_value-other = refl

only_value-itself : fits false (only_value 2) (Byte 2 ∷ []) ≡ true
unfolding valid_test layout_of list_less
only_value-itself = refl

-- behind the tag `A(u8)` has three bytes that nothing is asked of
c_enum-word : is_source_word c_enum (replicate 5 (Byte 0) ++ (Uninit ∷ Byte 0 ∷ Byte 0 ∷ [])) ≡ true
unfolding valid_test layout_of list_less
c_enum-word = refl

c_enum-no_bytes : fits false (bytes 8) (replicate 5 (Byte 0) ++ (Uninit ∷ Byte 0 ∷ Byte 0 ∷ [])) ≡ false
unfolding valid_test layout_of list_less
c_enum-no_bytes = refl

-- the tag is of the second variant, whose field has two bytes
c_enum-second : is_source_word c_enum (Byte 1 ∷ replicate 3 (Byte 0) ++ (Byte 5 ∷ Uninit ∷ Byte 0 ∷ Byte 0 ∷ [])) ≡ false
unfolding valid_test layout_of list_less
c_enum-second = refl

-- a negative discriminant in two's complement
minus_one-tag : is_source_word (enum repr_c (variant (negsuc 0) no_fields no_variants)) (replicate 4 (Byte 0xFF)) ≡ true
unfolding valid_test layout_of list_less
minus_one-tag = refl

packed_pair-word : fits false packed_pair (Byte 1 ∷ Byte 2 ∷ Byte 3 ∷ []) ≡ true
unfolding valid_test layout_of list_less
packed_pair-word = refl

message-example : fits false message (Byte 1 ∷ Byte 0 ∷ Byte 0 ∷ Byte 0 ∷ []) ≡ true
unfolding valid_test layout_of list_less
message-example = refl

message-zero : fits false message (replicate 4 (Byte 0)) ≡ false
unfolding valid_test layout_of list_less
message-zero = refl

message-word : is_source_word message (Byte 1 ∷ Uninit ∷ Byte 0 ∷ Byte 0 ∷ []) ≡ true
unfolding valid_test layout_of list_less
message-word = refl

-- a reference is no bytes, and bytes are no reference
reference-itself : fits false (reference 3) (pointer_of 8 3) ≡ true
unfolding valid_test layout_of list_less
reference-itself = refl

reference-no_bytes : fits false (prim Le64 p.Usize) (pointer_of 8 3) ≡ false
unfolding valid_test layout_of list_less
reference-no_bytes = refl

bytes-no_reference : fits false (reference 3) (replicate 8 (Byte 0)) ≡ false
unfolding valid_test layout_of list_less
bytes-no_reference = refl

option-null : is_source_word (option (reference 3)) (replicate 8 (Byte 0)) ≡ true
unfolding valid_test layout_of list_less
option-null = refl

option-some : fits false (option (reference 3)) (pointer_of 8 3) ≡ true
unfolding valid_test layout_of list_less
option-some = refl

-- free bytes take no reference, and `MaybeUninit` of one takes it whole
maybe-no_reference : fits false (array (wrap w.MaybeUninit u8) 4) (pointer_of 8 3) ≡ false
unfolding valid_test layout_of list_less
maybe-no_reference = refl

maybe-reference : fits false (wrap w.MaybeUninit (reference 3)) (pointer_of 8 3) ≡ true
unfolding valid_test layout_of list_less
maybe-reference = refl
