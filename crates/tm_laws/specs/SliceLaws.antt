-- Values of structs and enums, said by the places of their fields: the cells at each field's place are a word of
-- its type, and a cell that lies in no field is free.
use Rattle.std.specs.Prelude.{◌≡◌, ℕ, ◌+◌, ◌<◌, ◌≤◌, ◌⊎◌, ◌↔◌, Bool, false, ℤ, List, [], ◌∷◌, length, take, drop, get_or}
use Rattle.tm_base.specs.declared.cell.Cell.TheVariants.{Uninit}
use Rattle.tm_base.specs.declared.definition.Kind.TheVariants.{Struct, Enum}
use Rattle.tm_base.specs.declared.definition.Repr.{Repr}
use Rattle.tm_base.specs.declared.ground.NamedId.{NamedId}
use Rattle.tm_base.specs.declared.profile.Profile.{Profile}
use Rattle.tm_base.specs.Cells.{Word, IsFree}
use Rattle.tm_base.specs.Expanded.{Fields, Variants, named, no_fields, field, no_variants, variant}
use Rattle.tm_base.specs.Layout.{Layout, places, size_of, tag_layout, field_layouts}
use Rattle.tm_base.specs.Places.{fields_place, variant_places}
use Rattle.tm_base.specs.Transmutes.{holds}
use Rattle.tm_base.specs.Valid.{Valid, IsTag, MayBeMade}

-- so many cells of a word from a place on
abbrev pub slice : ℕ → ℕ → Word → Word
slice place n w = take n (drop place w)

-- the place lies in one of the fields that stand there
unfoldable pub IsCovered : List ℕ → List Layout → ℕ → Type 0
IsCovered [] ls i = ⊥
IsCovered (place ∷ others) [] i = ⊥
IsCovered (place ∷ others) (l ∷ ls) i = ((place ≤ i) × (i < place + l.size)) ⊎ IsCovered others ls i

-- each cell from a place on that lies in no field is free
pub record IsFreeBetween (from : ℕ) (stands : List ℕ) (ls : List Layout) (w : Word) : Type 0 where
  pub free : (i : ℕ) → from ≤ i → i < length w → ¬ IsCovered stands ls i → IsFree (get_or w i Uninit)

module _ (A : ℕ → ℕ → Type 0) (keep : Bool) where
  -- at each place stands a word of the field's type
  unfoldable pub HoldsFields : List ℕ → Fields → Word → Type 0
  HoldsFields [] no_fields w = Unit {0}
  HoldsFields [] (field public t rest) w = ⊥
  HoldsFields (place ∷ others) no_fields w = ⊥
  HoldsFields (place ∷ others) (field public t rest) w = Valid A keep t (slice place (size_of t) w) × HoldsFields others rest w

  -- the fields hold words of their types, and what lies in none of them is free, from a place on
  pub record HoldsAt (from : ℕ) (stands : List ℕ) (members : Fields) (w : Word) : Type 0 where
    pub holds_fields : HoldsFields stands members w
    pub free_between : IsFreeBetween from stands (field_layouts members) w

  -- the tag of one of the variants stands first, and its fields where they stand behind it
  unfoldable pub SomeVariantHolds : Profile → Repr → ℕ → Variants → Word → Type 0
  SomeVariantHolds profile repr begin no_variants w = ⊥
  SomeVariantHolds profile repr begin (variant value members rest) w =
      (IsTag profile (tag_layout profile repr.tag).size value (take (tag_layout profile repr.tag).size w)
      × HoldsAt (tag_layout profile repr.tag).size (variant_places profile repr begin (field_layouts members)) members w)
      ⊎ SomeVariantHolds profile repr begin rest w

-- a struct that isn't transparent
abbrev pub StructsHoldTheirFields : Type 0
StructsHoldTheirFields =
    (A : ℕ → ℕ → Bool) (keep : Bool) (profile : Profile) (id : NamedId) (repr : Repr) (value : ℤ) (members : Fields) (others : Variants) (w : Word)
    → repr.transparent ≡ false
    → Valid (holds A) keep (named profile id Struct repr (variant value members others)) w
    ↔ ((length w ≡ size_of (named profile id Struct repr (variant value members others))) × MayBeMade keep members
    × HoldsAt (holds A) keep 0 (places repr.packed 0 (field_layouts members)) members w)

-- an enum
abbrev pub EnumsHoldTheirFields : Type 0
EnumsHoldTheirFields =
    (A : ℕ → ℕ → Bool) (keep : Bool) (profile : Profile) (id : NamedId) (repr : Repr) (variants : Variants) (w : Word)
    → Valid (holds A) keep (named profile id Enum repr variants) w
    ↔ ((length w ≡ size_of (named profile id Enum repr variants))
    × SomeVariantHolds (holds A) keep profile repr (fields_place profile repr variants) variants w)
