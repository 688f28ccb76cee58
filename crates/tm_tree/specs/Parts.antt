-- The tree of a type. Trees in a row say what stands behind one another in memory. Which form they take is
-- this project's.
use Rattle.std.specs.Prelude.{ℕ, ◌+◌, ◌-◌, ◌==◌, Bool, if◌then◌else◌, List, [], ◌∷◌, ◌++◌}
use Rattle.tm_base.specs.declared.definition.Kind.TheVariants.{Struct, Union, Enum}
use Rattle.tm_base.specs.declared.definition.Repr.{Repr}
use Rattle.tm_base.specs.declared.ground.Primitive.{Primitive}
use Rattle.tm_base.specs.declared.ground.Primitive.TheVariants.{Bool as bool', Char}
use Rattle.tm_base.specs.declared.ground.Wrapper.{Wrapper}
use Rattle.tm_base.specs.declared.ground.Wrapper.TheVariants.{Option as option, MaybeUninit}
use Rattle.tm_base.specs.declared.profile.Profile.{Profile}
use Rattle.tm_base.specs.declared.tree.Tree.{Tree, Never, Range, Pad, Ref, Private}
use Rattle.tm_base.specs.Expanded.{Expanded, Fields, Variants, too_deep, prim, never, unit, tuple, array, nonzero, phantom, wrap, ref, named, no_fields, field, no_variants, variant}
use Rattle.tm_base.specs.Layout.{field_layouts, places, prim_size, size_of, tag_layout}
use Rattle.tm_base.specs.Places.{fields_place, variant_places}
use Rattle.tm_base.specs.Valid.{all_public}
use Rattle.tm_niche.specs.Forms.{char_form, is_never, joined, nonzero_form, null_form, one_of, repeated, tag_form}

-- so many bytes of padding
abbrev pub pads : ℕ → List Tree
pads n = repeated n Pad

abbrev pub prim_parts : Profile → Primitive → List Tree
prim_parts profile bool' = Range 0 1 ∷ []
prim_parts profile Char = char_form profile ∷ []
prim_parts profile p = repeated (prim_size profile p) (Range 0 255)

-- so many turns of what stands in a row
abbrev pub turns_of : ℕ → List Tree → List Tree
turns_of n ts = if n == 1 then ts else repeated n (joined ts)

-- what only a holder of private fields may make
abbrev pub hidden : Tree → Tree
hidden t = if is_never t then t else Private t

-- what stands in a row, where each field is public or not
abbrev pub guarded : Bool → List Tree → List Tree
guarded public ts = if public then ts else (hidden (joined ts) ∷ [])

-- a wrapper round what stands in a row and has so many bytes
abbrev pub wrap_parts : Wrapper → ℕ → List Tree → List Tree
wrap_parts option size ts = null_form size (joined ts) ∷ []
wrap_parts MaybeUninit size ts = one_of (joined (pads size) ∷ joined ts ∷ []) ∷ []
wrap_parts other size ts = ts

unfoldable mutual
  pub parts_of : Expanded → List Tree
  parts_of too_deep = Never ∷ []
  parts_of (prim profile p) = prim_parts profile p
  parts_of never = Never ∷ []
  parts_of unit = []
  parts_of (tuple members) = Never ∷ []
  parts_of (array t n) = turns_of n (parts_of t)
  parts_of (nonzero profile p) = nonzero_form (prim_size profile p) ∷ []
  parts_of phantom = []
  parts_of (wrap w t) = wrap_parts w (size_of t) (parts_of t)
  parts_of (ref profile r) = Ref r ∷ []
  parts_of (named profile id Struct repr variants) = struct_parts repr (size_of (named profile id Struct repr variants)) variants
  parts_of (named profile id Union repr variants) = union_parts (size_of (named profile id Union repr variants)) variants
  parts_of (named profile id Enum repr variants) =
      one_of (variant_ways profile repr (fields_place profile repr variants) (size_of (named profile id Enum repr variants)) variants) ∷ []

  -- a struct of so many bytes
  pub struct_parts : Repr → ℕ → Variants → List Tree
  struct_parts repr size no_variants = Never ∷ []
  struct_parts repr size (variant value members others) =
      guarded (all_public members) (if repr.transparent then bare_parts members else field_parts size 0 (places repr.packed 0 (field_layouts members)) members)

  -- fields that nothing stands between
  pub bare_parts : Fields → List Tree
  bare_parts no_fields = []
  bare_parts (field public t rest) = parts_of t ++ bare_parts rest

  -- fields at these places, from a place on up to the end of what they are in, with the padding before each and
  -- behind the last
  pub field_parts : ℕ → ℕ → List ℕ → Fields → List Tree
  field_parts end at ps no_fields = pads (end - at)
  field_parts end at [] (field public t rest) = Never ∷ []
  field_parts end at (place ∷ ps) (field public t rest) = pads (place - at) ++ (parts_of t ++ field_parts end (place + size_of t) ps rest)

  -- a union of so many bytes
  pub union_parts : ℕ → Variants → List Tree
  union_parts size no_variants = Never ∷ []
  union_parts size (variant value members others) = guarded (all_public members) (one_of (union_ways size members) ∷ [])

  -- one of the fields with the padding behind it
  pub union_ways : ℕ → Fields → List Tree
  union_ways size no_fields = []
  union_ways size (field public t rest) = joined (parts_of t ++ pads (size - size_of t)) ∷ union_ways size rest

  -- the tag of one of the variants of an enum of so many bytes, and its fields behind it
  pub variant_ways : Profile → Repr → ℕ → ℕ → Variants → List Tree
  variant_ways profile repr begin size no_variants = []
  variant_ways profile repr begin size (variant value members rest) =
      joined (tag_form profile (tag_layout profile repr.tag).size value
      ∷ field_parts size (tag_layout profile repr.tag).size (variant_places profile repr begin (field_layouts members)) members)
      ∷ variant_ways profile repr begin size rest

-- the tree of a type
unfoldable pub tree_for : Expanded → Tree
tree_for t = joined (parts_of t)
