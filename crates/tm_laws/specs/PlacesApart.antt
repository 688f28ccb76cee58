-- The fields of a type stand apart, behind its tag and inside it: the Rust Reference, "Type layout".
use Rattle.std.specs.Prelude.{◌≡◌, ℕ, ◌+◌, ◌<◌, ◌≤◌, ◌⊎◌, Bool, true, false, Option, Some, None, List, [], take, slice_get, option_and_then}
use Rattle.tm_base.specs.declared.definition.Kind.{Kind}
use Rattle.tm_base.specs.declared.definition.Kind.TheVariants.{Struct, Union, Enum}
use Rattle.tm_base.specs.declared.ground.Ground.{Ground}
use Rattle.tm_base.specs.declared.world.World.{World}
use Rattle.tm_base.specs.Expanded.{Expanded, Fields, Variants, tuple, array, wrap, named, no_fields, field, no_variants, variant}
use Rattle.tm_base.specs.Faults.{fault_of}
use Rattle.tm_base.specs.Layout.{Layout, size_of, tag_layout, variant_layouts}
use Rattle.tm_base.specs.Places.{place_of}
use Rattle.tm_base.specs.Reaches.{IsJudged}
use Rattle.tm_base.specs.Tables.{expanded_in}
use Rattle.tm_base.specs.Worlds.{tables_of, IsTypeOver}

module _ (P : Expanded → Type 0) where
  -- it holds of each type that this one holds by value, at any depth
  unfoldable mutual
    pub EachPart : Expanded → Type 0
    EachPart (tuple members) = EachField members
    EachPart (array t n) = P t × EachPart t
    EachPart (wrap w t) = P t × EachPart t
    EachPart (named profile id kind repr variants) = EachVariant variants
    EachPart t = Unit {0}

    pub EachField : Fields → Type 0
    EachField no_fields = Unit {0}
    EachField (field public t rest) = P t × EachPart t × EachField rest

    pub EachVariant : Variants → Type 0
    EachVariant no_variants = Unit {0}
    EachVariant (variant value members rest) = EachField members × EachVariant rest

  -- and of the type itself
  abbrev pub EachWithin : Expanded → Type 0
  EachWithin t = P t × EachPart t

-- the fields of each variant; a struct and a union are one variant
abbrev pub fields_within : Kind → List (List Layout) → List (List Layout)
fields_within Struct variants = take 1 variants
fields_within Union variants = take 1 variants
fields_within Enum variants = variants

abbrev pub fields_of_type : Expanded → List (List Layout)
fields_of_type (named profile id kind repr variants) = fields_within kind (variant_layouts variants)
fields_of_type t = []

-- the layout of a field of a variant, both counted from 0, where there is such a field
abbrev pub field_layout : Expanded → ℕ → ℕ → Option Layout
field_layout t variant_number field_number = option_and_then (λ fields. slice_get fields field_number) (slice_get (fields_of_type t) variant_number)

-- how many bytes of an enum its tag has, which stands first
abbrev pub tag_size : Expanded → ℕ
tag_size (named profile id Enum repr _) = (tag_layout profile repr.tag).size
tag_size t = 0

-- Of two fields that have these places and sizes, the later begins where the earlier ends or behind that.
-- Of two fields of a transparent struct, one has no bytes.
abbrev pub AreStructOrdered : Bool → ℕ → ℕ → ℕ → ℕ → Type 0
AreStructOrdered false place size later later_size = place + size ≤ later
AreStructOrdered true place size later later_size = (size ≡ 0) ⊎ (later_size ≡ 0)

-- The fields of a union may overlap.
abbrev pub AreOrdered : Expanded → ℕ → ℕ → ℕ → ℕ → Type 0
AreOrdered (named profile id Struct repr _) place size later later_size = AreStructOrdered repr.transparent place size later later_size
AreOrdered (named profile id Enum repr _) place size later later_size = place + size ≤ later
AreOrdered t place size later later_size = Unit {0}

pub record HasFieldsApart (t : Expanded) : Type 0 where
  -- each field has a place, which isn't in front of the tag's end, and ends inside the type
  pub inside : (v f : ℕ) (l : Layout) → field_layout t v f ≡ Some l → (place : ℕ) × (place_of t v f ≡ Some place) × (tag_size t ≤ place) × (place + l.size ≤ size_of t)
  -- two fields of one variant don't overlap
  pub apart : (v f g : ℕ) (l m : Layout) (place later : ℕ) → f < g → field_layout t v f ≡ Some l → field_layout t v g ≡ Some m
      → place_of t v f ≡ Some place → place_of t v g ≡ Some later → AreOrdered t place l.size later m.size

-- the type itself has a guaranteed layout
abbrev pub HasNoFault : Expanded → Type 0
HasNoFault t = fault_of t ≡ None

-- Where each type that is held by value has a guaranteed layout, the fields of each stand apart in it.
abbrev pub PlacesStandApart : Type 0
PlacesStandApart = (t : Expanded) → EachWithin HasNoFault t → EachWithin HasFieldsApart t

-- So they stand in a type over a world that reaches no type at fault, and in all that it holds by value.
abbrev pub PlacesOfJudgedTypesStandApart : World → Type 0
PlacesOfJudgedTypesStandApart world =
    (g : Ground) → IsTypeOver (tables_of world) g → IsJudged (tables_of world) g → EachWithin HasFieldsApart (expanded_in (tables_of world) g)
