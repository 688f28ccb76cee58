-- The test whether a word is one of a type, as `Valid` says, cut by cut from the front.
use Rattle.std.specs.Prelude.{ℕ, zero, suc, ◌+◌, ◌-◌, nat_lt, nat_le, ◌==◌, Bool, true, false, ◌&&◌, ◌||◌, not, [], ◌∷◌, Option, None, ℤ, length, take, drop, replicate}
use Rattle.std.specs.List.{list_all}
use Rattle.tm_base.specs.declared.cell.Cell.{Cell}
use Rattle.tm_base.specs.declared.cell.Cell.TheVariants.{Byte, Uninit, Ptr}
use Rattle.tm_base.specs.declared.definition.Kind.TheVariants.{Struct, Union, Enum}
use Rattle.tm_base.specs.declared.ground.Primitive.{Primitive}
use Rattle.tm_base.specs.declared.ground.Primitive.TheVariants.{Bool as bool', Char}
use Rattle.tm_base.specs.declared.ground.Wrapper.{Wrapper}
use Rattle.tm_base.specs.declared.ground.Wrapper.TheVariants.{Option as option, MaybeUninit}
use Rattle.tm_base.specs.declared.profile.Profile.{Profile}
use Rattle.tm_base.specs.Cells.{Word, pointer_of}
use Rattle.tm_base.specs.Expanded.{Expanded, Fields, Variants, too_deep, prim, never, unit, tuple, array, nonzero, phantom, wrap, ref, named, no_fields, field, no_variants, variant}
use Rattle.tm_base.specs.Layout.{prim_size, place_at, tag_layout, layout_of, size_of}
use Rattle.tm_base.specs.Orders.{word_less}
use Rattle.tm_base.specs.Places.{fields_place, first_place}
use Rattle.tm_base.specs.Profiles.{pointer_size, number_of}
use Rattle.tm_base.specs.Valid.{all_public, twos_complement}

-- as `IsByte`
abbrev pub is_byte : Cell → Bool
is_byte (Byte b) = nat_lt b 256
is_byte Uninit = false
is_byte (Ptr r k) = false

-- as `IsFree`
abbrev pub is_free : Cell → Bool
is_free (Byte b) = nat_lt b 256
is_free Uninit = true
is_free (Ptr r k) = false

-- as `AreBytes`
abbrev pub are_bytes : ℕ → Word → Bool
are_bytes n w = (length w == n) && list_all is_byte w

-- neither is less
abbrev pub word_same : Word → Word → Bool
word_same v w = not (word_less v w) && not (word_less w v)

-- as `IsScalar`
abbrev pub is_scalar : ℕ → Bool
is_scalar n = nat_le n 0xD7FF || (nat_le 0xE000 n && nat_le n 0x10FFFF)

-- as `PrimValid`
abbrev pub prim_test : Profile → Primitive → Word → Bool
prim_test profile bool' w = are_bytes 1 w && nat_le (number_of profile w) 1
prim_test profile Char w = are_bytes 4 w && is_scalar (number_of profile w)
prim_test profile p w = are_bytes (prim_size profile p) w

-- n words of s cells each, one after another
abbrev pub times_test : ℕ → ℕ → (Word → Bool) → Word → Bool
times_test zero s test w = word_same w []
times_test (suc n) s test w = test (take s w) && times_test n s test (drop s w)

-- as `WrapValid`
abbrev pub wrap_test : Wrapper → ℕ → (Word → Bool) → Word → Bool
wrap_test option n test w = word_same w (replicate n (Byte 0)) || test w
wrap_test MaybeUninit n test w = ((length w == n) && list_all is_free w) || test w
wrap_test other n test w = test w

-- the reference whose byte stands first
abbrev pub first_ref : Word → ℕ
first_ref [] = 0
first_ref (Byte b ∷ w) = 0
first_ref (Uninit ∷ w) = 0
first_ref (Ptr r k ∷ w) = r.0

-- as `IsTag`
abbrev pub tag_test : Profile → ℕ → ℤ → Word → Bool
tag_test profile n value w = are_bytes n w && (number_of profile w == twos_complement n value)

-- one of n bytes behind a gap, and what is left
abbrev pub field_test : (Word → Bool) → (Word → Bool) → ℕ → ℕ → ℕ → Word → Bool
field_test here others at place n w =
    (at + length (take (place - at) w) == place) && list_all is_free (take (place - at) w)
    && here (take n (drop (place - at) w)) && others (drop n (drop (place - at) w))

-- a tag of n bytes, a gap up to a place, and what is left
abbrev pub variant_test : (Word → Bool) → (Word → Bool) → ℕ → ℕ → Word → Bool
variant_test front others n begin w =
    front (take n w) && (length (take n w) + length (take (begin - n) (drop n w)) == begin)
    && list_all is_free (take (begin - n) (drop n w)) && others (drop (begin - n) (drop n w))

module _ (A : ℕ → ℕ → Bool) (keep : Bool) where
  unfoldable mutual
    pub valid_test : Expanded → Word → Bool
    valid_test too_deep w = false
    valid_test (prim profile p) w = prim_test profile p w
    valid_test never w = false
    valid_test unit w = word_same w []
    valid_test (tuple members) w = false
    valid_test (array t n) w = times_test n (size_of t) (valid_test t) w
    valid_test (nonzero profile p) w = are_bytes (prim_size profile p) w && nat_lt 0 (number_of profile w)
    valid_test phantom w = word_same w []
    valid_test (wrap k t) w = wrap_test k (size_of t) (valid_test t) w
    valid_test (ref profile t) w = A (first_ref w) t.0 && word_same w (pointer_of (pointer_size profile) (first_ref w))
    valid_test (named profile id Struct repr variants) w = (length w == size_of (named profile id Struct repr variants)) && struct_test repr.packed variants w
    valid_test (named profile id Union repr variants) w = (length w == size_of (named profile id Union repr variants)) && union_test variants w
    valid_test (named profile id Enum repr variants) w = (length w == size_of (named profile id Enum repr variants)) && some_variant_test profile repr.tag (fields_place profile repr variants) (first_place profile repr) variants w

    pub struct_test : Option ℕ → Variants → Word → Bool
    struct_test packed no_variants w = false
    struct_test packed (variant value members others) w = (keep || all_public members) && fields_test packed 0 members w

    pub union_test : Variants → Word → Bool
    union_test no_variants w = false
    union_test (variant value members others) w = (keep || all_public members) && some_field_test members w

    pub fields_test : Option ℕ → ℕ → Fields → Word → Bool
    fields_test packed at no_fields w = list_all is_free w
    fields_test packed at (field public t rest) w = field_test (valid_test t) (fields_test packed (place_at packed at (layout_of t) + size_of t) rest) at (place_at packed at (layout_of t)) (size_of t) w

    pub some_field_test : Fields → Word → Bool
    some_field_test no_fields w = false
    some_field_test (field public t rest) w =
        (valid_test t (take (size_of t) w) && list_all is_free (drop (size_of t) w)) || some_field_test rest w

    pub some_variant_test : Profile → Option Primitive → ℕ → ℕ → Variants → Word → Bool
    some_variant_test profile tag begin first no_variants w = false
    some_variant_test profile tag begin first (variant value members rest) w =
        variant_test (tag_test profile (tag_layout profile tag).size value) (fields_test None first members) (tag_layout profile tag).size begin w
        || some_variant_test profile tag begin first rest w
