-- A closed type written out for a profile: each definition's fields, with their types, stand in its place,
-- and what hangs on the profile has it beside it. What a type is and means is said of this form, by cases
-- on it. References aren't followed.
use Rattle.std.specs.Prelude.{ℕ, zero, suc, Bool, true, ℤ, List, [], ◌∷◌, Option, Some, None, slice_get}
use Rattle.tm_base.specs.declared.cell.RefId.{RefId}
use Rattle.tm_base.specs.declared.definition.Def.{Def}
use Rattle.tm_base.specs.declared.definition.Field.{Field}
use Rattle.tm_base.specs.declared.definition.Kind.{Kind}
use Rattle.tm_base.specs.declared.definition.NamedRow.{NamedRow}
use Rattle.tm_base.specs.declared.definition.Repr.{Repr}
use Rattle.tm_base.specs.declared.definition.Variant.{Variant}
use Rattle.tm_base.specs.declared.ground.Ground.{Ground, out-Ground}
use Rattle.tm_base.specs.declared.ground.Ground.TheOpen.{Ground-F}
use Rattle.tm_base.specs.declared.ground.NamedId.{NamedId}
use Rattle.tm_base.specs.declared.ground.Primitive.{Primitive}
use Rattle.tm_base.specs.declared.ground.Wrapper.{Wrapper}
use Rattle.tm_base.specs.declared.ground.Wrapper.TheVariants.{PhantomData}
use Rattle.tm_base.specs.declared.profile.Profile.{Profile}

mutual
  pub data Expanded : Type 0 where
    -- past the greatest depth, or a number that names nothing
    too_deep : Expanded
    prim : Profile → Primitive → Expanded
    never : Expanded
    unit : Expanded
    tuple : Fields → Expanded
    array : Expanded → ℕ → Expanded
    nonzero : Profile → Primitive → Expanded
    -- `PhantomData`, whose argument says nothing of it
    phantom : Expanded
    wrap : Wrapper → Expanded → Expanded
    ref : Profile → RefId → Expanded
    -- with the number of its row, so that two named types of one form are two types
    named : Profile → NamedId → Kind → Repr → Variants → Expanded

  -- fields in the order in which they are written: whether one is public, its type, and the others
  pub data Fields : Type 0 where
    no_fields : Fields
    field : Bool → Expanded → Fields → Fields

  -- variants in the order in which they are written: one's discriminant, its fields, and the others
  pub data Variants : Type 0 where
    no_variants : Variants
    variant : ℤ → Fields → Variants → Variants

-- one level of a type, where `part` is what a part of it expands to
module _ (part : Ground → Expanded) where
  abbrev pub elements : List Ground → Fields
  elements [] = no_fields
  elements (g ∷ gs) = field true (part g) (elements gs)

  abbrev pub fields_of : List Field → List Ground → Fields
  fields_of [] types = no_fields
  fields_of (f ∷ fs) [] = field f.public too_deep no_fields
  fields_of (f ∷ fs) (g ∷ gs) = field f.public (part g) (fields_of fs gs)

  abbrev pub variants_of : List Variant → List (List Ground) → Variants
  variants_of [] types = no_variants
  variants_of (v ∷ vs) [] = variant v.value (field true too_deep no_fields) no_variants
  variants_of (v ∷ vs) (gs ∷ types) = variant v.value (fields_of v.fields gs) (variants_of vs types)

  abbrev pub defined : Profile → NamedId → List (List Ground) → Option Def → Expanded
  defined profile id types None = too_deep
  defined profile id types (Some def) = named profile id def.kind def.repr (variants_of def.variants types)

  abbrev pub row_of : Profile → List Def → NamedId → Option NamedRow → Expanded
  row_of profile defs id None = too_deep
  row_of profile defs id (Some row) = defined profile id row.types (slice_get defs row.def.0)

  abbrev pub wrapped : Wrapper → Ground → Expanded
  wrapped PhantomData g = phantom
  wrapped w g = wrap w (part g)

  abbrev pub level : Profile → List Def → List NamedRow → Ground-F Ground → Expanded
  level profile defs rows (Ground-F.Prim p) = prim profile p
  level profile defs rows Ground-F.Never = never
  level profile defs rows Ground-F.Unit = unit
  level profile defs rows (Ground-F.Tuple gs) = tuple (elements gs)
  level profile defs rows (Ground-F.Array g n) = array (part g) n
  level profile defs rows (Ground-F.Named id) = row_of profile defs id (slice_get rows id.0)
  level profile defs rows (Ground-F.NonZero p) = nonzero profile p
  level profile defs rows (Ground-F.Wrap w g) = wrapped w g
  level profile defs rows (Ground-F.Ref r) = ref profile r

-- the type written out, where its depth by value is at most the number
unfoldable pub expanded_within : Profile → ℕ → List Def → List NamedRow → Ground → Expanded
expanded_within profile zero defs rows g = too_deep
expanded_within profile (suc n) defs rows g = level (expanded_within profile n defs rows) profile defs rows (out-Ground g)

-- the greatest depth by value of a type
abbrev pub depth_limit : ℕ
depth_limit = 64

-- a type written out, over these definitions and named types
abbrev pub expanded : Profile → List Def → List NamedRow → Ground → Expanded
expanded profile = expanded_within profile depth_limit
