-- Which words are values of a type. The Rust Reference, "Behavior considered undefined", "Invalid
-- values", and the pages of std on `bool`, `char`, `NonZero`, `MaybeUninit`, `Option` ("Representation")
-- and the other wrappers. What unions, padding, private fields and references take is this project's.
use Rattle.std.specs.Prelude.{◌≡◌, ℕ, ◌+◌, ◌-◌, ◌^◌, ◌<◌, ◌≤◌, ◌⊎◌, Bool, true, ◌&&◌, ◌||◌, IsTrue, ℤ, pos, negsuc, Option, None, [], ◌++◌, length, replicate, All}
use Rattle.tm_base.specs.declared.cell.Cell.TheVariants.{Byte}
use Rattle.tm_base.specs.declared.definition.Kind.TheVariants.{Struct, Union, Enum}
use Rattle.tm_base.specs.declared.ground.Primitive.{Primitive}
use Rattle.tm_base.specs.declared.ground.Primitive.TheVariants.{Bool as bool', Char}
use Rattle.tm_base.specs.declared.ground.Wrapper.{Wrapper}
use Rattle.tm_base.specs.declared.ground.Wrapper.TheVariants.{Option as option, MaybeUninit}
use Rattle.tm_base.specs.Cells.{Word, IsByte, IsFree, pointer_of, Times}
use Rattle.tm_base.specs.Expanded.{Expanded, Fields, Variants, too_deep, prim, never, unit, tuple, array, nonzero, phantom, wrap, ref, named, no_fields, field, no_variants, variant}
use Rattle.tm_base.specs.declared.profile.Profile.{Profile}
use Rattle.tm_base.specs.Layout.{prim_size, place_at, tag_layout, layout_of, size_of}
use Rattle.tm_base.specs.Places.{fields_place, first_place}
use Rattle.tm_base.specs.Profiles.{pointer_size, number_of}

-- initialised bytes, so many of them
abbrev pub AreBytes : ℕ → Word → Type 0
AreBytes n w = (length w ≡ n) × All IsByte w

-- bytes that nothing is asked of, so many of them
abbrev pub AreFree : ℕ → Word → Type 0
AreFree n w = (length w ≡ n) × All IsFree w

-- a Unicode scalar value
abbrev pub IsScalar : ℕ → Type 0
IsScalar n = (n ≤ 0xD7FF) ⊎ ((0xE000 ≤ n) × (n ≤ 0x10FFFF))

abbrev pub PrimValid : Profile → Primitive → Word → Type 0
PrimValid profile bool' w = AreBytes 1 w × (number_of profile w ≤ 1)
PrimValid profile Char w = AreBytes 4 w × IsScalar (number_of profile w)
PrimValid profile p w = AreBytes (prim_size profile p) w

-- a wrapper round a type of n bytes whose words are those of P
abbrev pub WrapValid : Wrapper → ℕ → (Word → Type 0) → Word → Type 0
WrapValid option n P w = (w ≡ replicate n (Byte 0)) ⊎ P w
WrapValid MaybeUninit n P w = AreFree n w ⊎ P w
WrapValid other n P w = P w

-- the number below 256 ^ n that n bytes hold for a whole number, in two's complement
abbrev pub twos_complement : ℕ → ℤ → ℕ
twos_complement n (pos k) = k
twos_complement n (negsuc k) = 256 ^ n - (k + 1)

-- the bytes of a tag
abbrev pub IsTag : Profile → ℕ → ℤ → Word → Type 0
IsTag profile n value w = AreBytes n w × (number_of profile w ≡ twos_complement n value)

abbrev pub all_public : Fields → Bool
all_public no_fields = true
all_public (field public t rest) = public && all_public rest

-- a struct or a union may be made: private types keep their words, or each field is public
abbrev pub MayBeMade : Bool → Fields → Type 0
MayBeMade keep members = IsTrue (keep || all_public members)

-- The words of a type, where A says which values a reference may hold, and `keep` that private types
-- keep their words.
module _ (A : ℕ → ℕ → Type 0) (keep : Bool) where
  unfoldable mutual
    pub Valid : Expanded → Word → Type 0
    Valid too_deep w = ⊥
    Valid (prim profile p) w = PrimValid profile p w
    Valid never w = ⊥
    Valid unit w = w ≡ []
    Valid (tuple members) w = ⊥
    Valid (array t n) w = Times n (Valid t) w
    Valid (nonzero profile p) w = AreBytes (prim_size profile p) w × (0 < number_of profile w)
    Valid phantom w = w ≡ []
    Valid (wrap k t) w = WrapValid k (size_of t) (Valid t) w
    Valid (ref profile t) w = (x : ℕ) × A x t.0 × (w ≡ pointer_of (pointer_size profile) x)
    Valid (named profile id Struct repr variants) w = (length w ≡ size_of (named profile id Struct repr variants)) × StructValid repr.packed variants w
    Valid (named profile id Union repr variants) w = (length w ≡ size_of (named profile id Union repr variants)) × UnionValid variants w
    Valid (named profile id Enum repr variants) w = (length w ≡ size_of (named profile id Enum repr variants)) × SomeVariantValid profile repr.tag (fields_place profile repr variants) (first_place profile repr) variants w

    -- the fields of a `repr(transparent)` struct but one have no bytes, so they too may stand in order
    pub StructValid : Option ℕ → Variants → Word → Type 0
    StructValid packed no_variants w = ⊥
    StructValid packed (variant value members others) w = MayBeMade keep members × FieldsValid packed 0 members w

    pub UnionValid : Variants → Word → Type 0
    UnionValid no_variants w = ⊥
    UnionValid (variant value members others) w = MayBeMade keep members × SomeFieldValid members w

    -- What is left of a word at a place inside its struct: free bytes up to the first field, the field,
    -- and what is left behind it; behind the last field, free bytes.
    pub FieldsValid : Option ℕ → ℕ → Fields → Word → Type 0
    FieldsValid packed at no_fields w = All IsFree w
    FieldsValid packed at (field public t rest) w =
        (gap : Word) × (here : Word) × (others : Word) × (w ≡ gap ++ (here ++ others))
        × (at + length gap ≡ place_at packed at (layout_of t)) × All IsFree gap
        × Valid t here
        × FieldsValid packed (place_at packed at (layout_of t) + size_of t) rest others

    -- one of the fields stands at the front, and behind it free bytes
    pub SomeFieldValid : Fields → Word → Type 0
    SomeFieldValid no_fields w = ⊥
    SomeFieldValid (field public t rest) w =
        ((here : Word) × (others : Word) × (w ≡ here ++ others) × Valid t here × All IsFree others)
        ⊎ SomeFieldValid rest w

    -- the tag of one of the variants, free bytes up to where fields begin, and its fields
    pub SomeVariantValid : Profile → Option Primitive → ℕ → ℕ → Variants → Word → Type 0
    SomeVariantValid profile tag begin first no_variants w = ⊥
    SomeVariantValid profile tag begin first (variant value members rest) w =
        ((front : Word) × (gap : Word) × (others : Word) × (w ≡ front ++ (gap ++ others))
        × IsTag profile (tag_layout profile tag).size value front
        × (length front + length gap ≡ begin) × All IsFree gap
        × FieldsValid None first members others)
        ⊎ SomeVariantValid profile tag begin first rest w
