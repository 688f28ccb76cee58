-- Types of the worked rows, written out.
use Rattle.std.proofs.Common.{◌≡◌, ℕ, refl, true, false, Bool, None, Some, [], ◌∷◌, pos, ◌==◌}
use Rattle.tm_base.specs.declared.profile.Profile.TheVariants.{Le64}
use Rattle.tm_base.specs.declared.definition.Def.{Def}
use Rattle.tm_base.specs.declared.definition.Kind.TheVariants.{Struct, Union, Enum}
use Rattle.tm_base.specs.declared.definition.NamedRow.{NamedRow}
use Rattle.tm_base.specs.declared.definition.Repr.{Repr}
use Rattle.tm_base.specs.declared.ground.Ground.{out-Ground}
use Rattle.tm_base.specs.declared.ground.Ground.TheVariants as ground
use Rattle.tm_base.specs.declared.ground.NamedId.{NamedId}
use Rattle.tm_base.specs.declared.ground.Primitive.TheVariants as p
use Rattle.tm_base.specs.declared.ground.Wrapper.TheVariants as w
use Rattle.tm_base.specs.Cells.{Word, fit}
use Rattle.tm_base.specs.Expanded.{Expanded, Fields, Variants, prim, array, nonzero, wrap, ref, named, no_fields, field, no_variants, variant, expanded, expanded_within}
use Rattle.tm_base.specs.Layout.{size_of}
use Rattle.tm_base.specs.ValidTest.{valid_test}

-- representations
abbrev pub repr_none : Repr
repr_none = record { c = false; transparent = false; tag = None; packed = None; align = None }

abbrev pub repr_c : Repr
repr_c = record { c = true; transparent = false; tag = None; packed = None; align = None }

abbrev pub repr_transparent : Repr
repr_transparent = record { c = false; transparent = true; tag = None; packed = None; align = None }

abbrev pub repr_u8 : Repr
repr_u8 = record { c = false; transparent = false; tag = Some p.U8; packed = None; align = None }

abbrev pub repr_packed : Repr
repr_packed = record { c = true; transparent = false; tag = None; packed = Some 1; align = None }

abbrev pub repr_align : ℕ → Repr
repr_align n = record { c = true; transparent = false; tag = None; packed = None; align = Some n }

-- built-in types
abbrev pub the_bool : Expanded
the_bool = prim Le64 p.Bool

abbrev pub the_char : Expanded
the_char = prim Le64 p.Char

abbrev pub u8 : Expanded
u8 = prim Le64 p.U8

abbrev pub u16 : Expanded
u16 = prim Le64 p.U16

abbrev pub u32 : Expanded
u32 = prim Le64 p.U32

abbrev pub u64 : Expanded
u64 = prim Le64 p.U64

abbrev pub bytes : ℕ → Expanded
bytes n = array u8 n

abbrev pub reference : ℕ → Expanded
reference r = ref Le64 (record { 0 = r })

abbrev pub option : Expanded → Expanded
option t = wrap w.Option t

-- a struct, a union and an enum of these fields or variants
abbrev pub the_id : NamedId
the_id = record { 0 = 0 }

abbrev pub struct : Repr → Fields → Expanded
struct repr members = named Le64 the_id Struct repr (variant (pos 0) members no_variants)

abbrev pub union : Repr → Fields → Expanded
union repr members = named Le64 the_id Union repr (variant (pos 0) members no_variants)

abbrev pub enum : Repr → Variants → Expanded
enum repr arms = named Le64 the_id Enum repr arms

abbrev pub two : Expanded → Expanded → Fields
two t u = field true t (field true u no_fields)

abbrev pub one : Expanded → Fields
one t = field true t no_fields

-- #[repr(C)] struct { pub a: u8, pub b: u16 }
abbrev pub padded : Expanded
padded = struct repr_c (two u8 u16)

-- #[repr(C)] struct { a: u8 }
abbrev pub closed : Expanded
closed = struct repr_c (field false u8 no_fields)

-- #[repr(u8)] enum { X = n }
abbrev pub only_value : ℕ → Expanded
only_value n = enum repr_u8 (variant (pos n) no_fields no_variants)

-- #[repr(C)] union { pub p: P, pub q: Q }, where P is 0 and Q is 1
abbrev pub either_bit : Expanded
either_bit = union repr_c (two (only_value 0) (only_value 1))

-- #[repr(C)] enum { A(u8), B(u16) }
abbrev pub c_enum : Expanded
c_enum = enum repr_c (variant (pos 0) (one u8) (variant (pos 1) (one u16) no_variants))

-- #[repr(C, packed)] struct { pub a: u8, pub b: u16 }
abbrev pub packed_pair : Expanded
packed_pair = struct repr_packed (two u8 u16)

-- #[repr(C)] enum { A = 2147483648 }
abbrev pub past_i32 : Expanded
past_i32 = enum repr_c (variant (pos 2147483648) no_fields no_variants)

-- #[repr(C)] struct { pub n: u64, pub r: &u8 }
abbrev pub with_reference : Expanded
with_reference = struct repr_c (two u64 (reference 1))

-- #[repr(C)] struct { pub version: u8, pub flags: u8, pub length: u16, pub id: u32 }
abbrev pub header : Expanded
header = struct repr_c (field true u8 (field true u8 (field true u16 (field true u32 no_fields))))

-- #[repr(u8)] enum { Ping = 1, Data(u16), Stop { code: u8 } = 9 }
abbrev pub message : Expanded
message = enum repr_u8 (variant (pos 1) no_fields (variant (pos 2) (one u16) (variant (pos 9) (one u8) no_variants)))

-- #[repr(transparent)] struct (NonZeroU16), whose field is private
abbrev pub port : Expanded
port = struct repr_transparent (field false (nonzero Le64 p.U16) no_fields)

-- whether a word is one of a source, and whether a target takes it, fitted; references hold themselves
abbrev pub is_source_word : Expanded → Word → Bool
is_source_word t w = valid_test (λ x r. x == r) true t w

abbrev pub fits : Bool → Expanded → Word → Bool
fits keep t w = valid_test (λ x r. x == r) keep t (fit w (size_of t))

-- a definition and a named type as a file gives them
abbrev padded_def : Def
padded_def = record { name = 83 ∷ []; kind = Struct; repr = repr_c; variants = record { name = []; value = pos 0; fields = record { name = 97 ∷ []; public = true } ∷ record { name = 98 ∷ []; public = true } ∷ [] } ∷ [] }

abbrev padded_row : NamedRow
padded_row = record { def = record { 0 = 0 }; regions = []; args = []; types = (ground.Prim p.U8 ∷ ground.Prim p.U16 ∷ []) ∷ [] }

padded-expanded : expanded Le64 (padded_def ∷ []) (padded_row ∷ []) (ground.Named the_id) ≡ padded
unfolding expanded_within out-Ground denote.Hole.Carrier.out
padded-expanded = refl
