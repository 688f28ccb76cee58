-- Sizes, alignments and places, in bytes. The Rust Reference, "Type layout": "Size and Alignment",
-- "Primitive Data Layout", "The C Representation", "Primitive representations", "The alignment
-- modifiers" and "The transparent Representation". Where the Reference leaves a choice to the target,
-- this project's profiles take it: each primitive is aligned to its size, as a reference is.
use Rattle.std.specs.Prelude.{ℕ, ◌+◌, ◌-◌, ◌*◌, ◌%◌, max, min, Bool, ◌&&◌, ◌==◌, if◌then◌else◌, Option, Some, None, List, [], ◌∷◌, ◌++◌}
use Rattle.tm_base.specs.declared.definition.Kind.{Kind}
use Rattle.tm_base.specs.declared.definition.Kind.TheVariants.{Struct, Union, Enum}
use Rattle.tm_base.specs.declared.definition.Repr.{Repr}
use Rattle.tm_base.specs.declared.ground.Primitive.{Primitive}
use Rattle.tm_base.specs.declared.ground.Primitive.TheVariants.{Bool as bool', Char, U8, U16, U32, U64, U128, Usize, I8, I16, I32, I64, I128, Isize, F32, F64}
use Rattle.tm_base.specs.declared.profile.Profile.{Profile}
use Rattle.tm_base.specs.Profiles.{pointer_size}
use Rattle.tm_base.specs.Expanded.{Expanded, Fields, Variants, too_deep, prim, never, unit, tuple, array, nonzero, phantom, wrap, ref, named, no_fields, field, no_variants, variant}

-- the size and the alignment of a type
pub record Layout : Type 0 where
  pub size : ℕ
  pub align : ℕ

-- the size of a primitive
abbrev pub prim_size : Profile → Primitive → ℕ
prim_size profile bool' = 1
prim_size profile U8 = 1
prim_size profile I8 = 1
prim_size profile U16 = 2
prim_size profile I16 = 2
prim_size profile U32 = 4
prim_size profile I32 = 4
prim_size profile Char = 4
prim_size profile F32 = 4
prim_size profile U64 = 8
prim_size profile I64 = 8
prim_size profile F64 = 8
prim_size profile Usize = pointer_size profile
prim_size profile Isize = pointer_size profile
prim_size profile U128 = 16
prim_size profile I128 = 16

abbrev pub prim_layout : Profile → Primitive → Layout
prim_layout profile p = record { size = prim_size profile p; align = prim_size profile p }

abbrev pub empty_layout : Layout
empty_layout = record { size = 0; align = 1 }

-- the least multiple of the second number that isn't below the first
abbrev pub round_up : ℕ → ℕ → ℕ
round_up n a = n + (a - n % a) % a

-- the alignment that a field has under `packed(N)`
abbrev pub lowered : Option ℕ → ℕ → ℕ
lowered None a = a
lowered (Some n) a = min n a

-- the alignment that a type has under `align(N)`
abbrev pub raised : Option ℕ → ℕ → ℕ
raised None a = a
raised (Some n) a = max n a

-- where a field stands, at or past a place
abbrev pub place_at : Option ℕ → ℕ → Layout → ℕ
place_at packed at l = round_up at (lowered packed l.align)

-- where each field stands: the first at or past a place, each other at or past the end before it
abbrev pub places : Option ℕ → ℕ → List Layout → List ℕ
places packed at [] = []
places packed at (l ∷ ls) = place_at packed at l ∷ places packed (place_at packed at l + l.size) ls

-- where the last of these fields ends
abbrev pub end_of : Option ℕ → ℕ → List Layout → ℕ
end_of packed at [] = at
end_of packed at (l ∷ ls) = end_of packed (place_at packed at l + l.size) ls

-- the greatest alignment of some fields
abbrev pub greatest_align : Option ℕ → List Layout → ℕ
greatest_align packed [] = 1
greatest_align packed (l ∷ ls) = max (lowered packed l.align) (greatest_align packed ls)

abbrev pub greatest_size : List Layout → ℕ
greatest_size [] = 0
greatest_size (l ∷ ls) = max l.size (greatest_size ls)

-- a size that is rounded up to the alignment
abbrev pub filled : ℕ → ℕ → Layout
filled size align = record { size = round_up size align; align = align }

-- a `repr(C)` struct of these fields
abbrev pub struct_layout : Option ℕ → Option ℕ → List Layout → Layout
struct_layout packed align fields = filled (end_of packed 0 fields) (raised align (greatest_align packed fields))

-- a `repr(C)` union of these fields
abbrev pub union_layout : Option ℕ → Option ℕ → List Layout → Layout
union_layout packed align fields = filled (greatest_size fields) (raised align (greatest_align packed fields))

-- of size 0 and alignment 1
abbrev pub is_trivial : Layout → Bool
is_trivial l = (l.size == 0) && (l.align == 1)

-- a `repr(transparent)` struct has the layout of its one field that isn't of size 0 and alignment 1
abbrev pub transparent_layout : List Layout → Layout
transparent_layout [] = empty_layout
transparent_layout (l ∷ ls) = if is_trivial l then transparent_layout ls else l

-- an enum's tag: of the integer type that is written, else of 4 bytes
abbrev pub tag_layout : Profile → Option Primitive → Layout
tag_layout profile None = record { size = 4; align = 4 }
tag_layout profile (Some p) = prim_layout profile p

-- the fields of each variant as a `repr(C)` struct, behind those that stand before them
abbrev pub structs : List Layout → List (List Layout) → List Layout
structs before [] = []
structs before (fields ∷ others) = struct_layout None None (before ++ fields) ∷ structs before others

-- an enum with `repr(C)` is a struct of the tag and a union of structs, one for each variant; one
-- with an integer alone is a union of structs each of which begins with the tag
abbrev pub enum_layout : Profile → Repr → List (List Layout) → Layout
enum_layout profile r variants =
    if r.c
    then struct_layout None None (tag_layout profile r.tag ∷ union_layout None None (structs [] variants) ∷ [])
    else union_layout None None (structs (tag_layout profile r.tag ∷ []) variants)

-- what stands for the fields of a struct or a union, which is one variant
abbrev pub only : {X : Type 0} → List (List X) → List X
only [] = []
only (fields ∷ others) = fields

abbrev pub named_layout : Profile → Kind → Repr → List (List Layout) → Layout
named_layout profile Struct r variants =
    if r.transparent then transparent_layout (only variants) else struct_layout r.packed r.align (only variants)
named_layout profile Union r variants = union_layout r.packed r.align (only variants)
named_layout profile Enum r variants = enum_layout profile r variants

-- The size and the alignment of a type. A tuple has none that is guaranteed; it gets those of `()`.
unfoldable mutual
  pub layout_of : Expanded → Layout
  layout_of too_deep = empty_layout
  layout_of (prim profile p) = prim_layout profile p
  layout_of never = empty_layout
  layout_of unit = empty_layout
  layout_of (tuple members) = empty_layout
  layout_of (array t n) = record { size = n * (layout_of t).size; align = (layout_of t).align }
  layout_of (nonzero profile p) = prim_layout profile p
  layout_of phantom = empty_layout
  layout_of (wrap w t) = layout_of t
  layout_of (ref profile r) = record { size = pointer_size profile; align = pointer_size profile }
  layout_of (named profile id kind repr variants) = named_layout profile kind repr (variant_layouts variants)

  pub field_layouts : Fields → List Layout
  field_layouts no_fields = []
  field_layouts (field public t rest) = layout_of t ∷ field_layouts rest

  pub variant_layouts : Variants → List (List Layout)
  variant_layouts no_variants = []
  variant_layouts (variant value members rest) = field_layouts members ∷ variant_layouts rest

abbrev pub size_of : Expanded → ℕ
size_of t = (layout_of t).size

abbrev pub align_of : Expanded → ℕ
align_of t = (layout_of t).align
