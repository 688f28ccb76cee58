-- How the profiles differ: the byte order of numbers, and how many bytes `usize` and references have.
use Rattle.std.proofs.Common.{◌≡◌, refl, ap, true, false, None, Some, [], ◌∷◌, ◌++◌, length, pos, negsuc, replicate, arith}
use Rattle.tm_base.specs.declared.cell.Cell.TheVariants.{Byte, Uninit}
use Rattle.tm_base.specs.declared.definition.Kind.TheVariants.{Enum}
use Rattle.tm_base.specs.declared.definition.Repr.{Repr}
use Rattle.tm_base.specs.declared.ground.Primitive.TheVariants as p
use Rattle.tm_base.specs.declared.profile.Profile.{Profile}
use Rattle.tm_base.specs.declared.profile.Profile.TheVariants.{Le64, Be64, Le32}
use Rattle.tm_base.specs.Cells.{Word, pointer_of, HasWholeReferences, nothing_left, byte_first, uninit_first, reference_first}
use Rattle.tm_base.specs.Expanded.{Expanded, prim, ref, named, no_fields, field, no_variants, variant}
use Rattle.tm_base.specs.Layout.{layout_of}
use Rattle.tm_base.specs.Orders.{list_less}
use Rattle.tm_base.specs.Profiles.{number_of}
use Rattle.tm_base.specs.ValidTest.{valid_test}
use Rattle.tm_base.proofs.rows.Types.{the_id, is_source_word}

-- ---- byte order: 00 00 00 41 is the number of `A` with the highest byte first, and no `char` with the lowest

abbrev last_41 : Word
last_41 = Byte 0 ∷ Byte 0 ∷ Byte 0 ∷ Byte 0x41 ∷ []

big-number : number_of Be64 last_41 ≡ 0x41
big-number = refl

little-number : number_of Le32 last_41 ≡ 0x41000000
little-number = refl

big-char : is_source_word (prim Be64 p.Char) last_41 ≡ true
unfolding valid_test layout_of list_less
big-char = refl

little64-no_char : is_source_word (prim Le64 p.Char) last_41 ≡ false
unfolding valid_test layout_of list_less
little64-no_char = refl

little32-no_char : is_source_word (prim Le32 p.Char) last_41 ≡ false
unfolding valid_test layout_of list_less
little32-no_char = refl

-- the number past the last scalar value, 00 11 00 00 there, and 00 00 11 00, which is one
big-past : is_source_word (prim Be64 p.Char) (Byte 0 ∷ Byte 0x11 ∷ Byte 0 ∷ Byte 0 ∷ []) ≡ false
unfolding valid_test layout_of list_less
big-past = refl

big-inside : is_source_word (prim Be64 p.Char) (Byte 0 ∷ Byte 0 ∷ Byte 0x11 ∷ Byte 0 ∷ []) ≡ true
unfolding valid_test layout_of list_less
big-inside = refl

little-past : is_source_word (prim Le64 p.Char) (Byte 0 ∷ Byte 0 ∷ Byte 0x11 ∷ Byte 0 ∷ []) ≡ false
unfolding valid_test layout_of list_less
little-past = refl

-- all bytes of a `u32` are met in each order
big-u32 : is_source_word (prim Be64 p.U32) last_41 ≡ true
unfolding valid_test layout_of list_less
big-u32 = refl

-- ---- references: 8 bytes or 4

abbrev reference_for : Profile → Expanded
reference_for profile = ref profile (record { 0 = 3 })

reference-32 : layout_of (reference_for Le32) ≡ record { size = 4; align = 4 }
unfolding layout_of
reference-32 = refl

reference-64 : layout_of (reference_for Be64) ≡ record { size = 8; align = 8 }
unfolding layout_of
reference-64 = refl

four_bytes-32 : is_source_word (reference_for Le32) (pointer_of 4 3) ≡ true
unfolding valid_test layout_of list_less
four_bytes-32 = refl

eight_bytes-32 : is_source_word (reference_for Le32) (pointer_of 8 3) ≡ false
unfolding valid_test layout_of list_less
eight_bytes-32 = refl

four_bytes-64 : is_source_word (reference_for Le64) (pointer_of 4 3) ≡ false
unfolding valid_test layout_of list_less
four_bytes-64 = refl

eight_bytes-64 : is_source_word (reference_for Be64) (pointer_of 8 3) ≡ true
unfolding valid_test layout_of list_less
eight_bytes-64 = refl

-- a word with half of a reference has none that are whole
whole-32 : HasWholeReferences 4 (Uninit ∷ pointer_of 4 3)
whole-32 = uninit_first _ (pointer_of 4 3) refl (reference_first 3 _ [] refl (nothing_left [] refl))

half-64 : ¬ HasWholeReferences 8 (pointer_of 4 3)
half-64 (nothing_left _ e) = cc
half-64 (byte_first b _ rest e h) = cc
half-64 (uninit_first _ rest e h) = cc
half-64 (reference_first x _ rest e h) =
    let long = ap length e in
    absurd (omega arith)

-- ---- `usize`, and `#[repr(usize)] enum { X = 1, Y(u8) = 2 }`

abbrev repr_usize : Repr
repr_usize = record { c = false; transparent = false; tag = Some p.Usize; packed = None; align = None }

abbrev by_usize : Profile → Expanded
by_usize profile = named profile the_id Enum repr_usize (variant (pos 1) no_fields (variant (pos 2) (field true (prim profile p.U8) no_fields) no_variants))

usize-32 : layout_of (prim Le32 p.Usize) ≡ record { size = 4; align = 4 }
unfolding layout_of
usize-32 = refl

-- and a `u64` stays of 8 bytes, aligned to them
u64-32 : layout_of (prim Le32 p.U64) ≡ record { size = 8; align = 8 }
unfolding layout_of
u64-32 = refl

by_usize-32 : layout_of (by_usize Le32) ≡ record { size = 8; align = 4 }
unfolding layout_of
by_usize-32 = refl

by_usize-64 : layout_of (by_usize Le64) ≡ record { size = 16; align = 8 }
unfolding layout_of
by_usize-64 = refl

-- a tag of 4 bytes, the field, and 3 bytes that nothing is asked of
tag-32 : is_source_word (by_usize Le32) (Byte 2 ∷ Byte 0 ∷ Byte 0 ∷ Byte 0 ∷ Byte 7 ∷ replicate 3 (Byte 0)) ≡ true
unfolding valid_test layout_of list_less
tag-32 = refl

-- a tag of 8 bytes, the least first
tag-little_64 : is_source_word (by_usize Le64) (Byte 2 ∷ replicate 7 (Byte 0) ++ replicate 8 (Byte 7)) ≡ true
unfolding valid_test layout_of list_less
tag-little_64 = refl

-- and the highest first
tag-big_64 : is_source_word (by_usize Be64) (replicate 7 (Byte 0) ++ (Byte 2 ∷ replicate 8 (Byte 7))) ≡ true
unfolding valid_test layout_of list_less
tag-big_64 = refl

tag-reversed : is_source_word (by_usize Be64) (Byte 2 ∷ replicate 7 (Byte 0) ++ replicate 8 (Byte 7)) ≡ false
unfolding valid_test layout_of list_less
tag-reversed = refl

-- a negative discriminant of `repr(isize)` in two's complement of 4 bytes
minus_one-32 : is_source_word (named Le32 the_id Enum (record { c = false; transparent = false; tag = Some p.Isize; packed = None; align = None }) (variant (negsuc 0) no_fields no_variants)) (replicate 4 (Byte 0xFF)) ≡ true
unfolding valid_test layout_of list_less
minus_one-32 = refl
