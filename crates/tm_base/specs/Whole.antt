-- What holds of each world, as tests of its parts. Limits and forms are this project's; which
-- representations go together is the Rust Reference's, "Type layout".
use Rattle.std.specs.Prelude.{◌≡◌, ◌≢◌, ℕ, ◌<◌, ◌^◌, nat_le, nat_lt, ◌==◌, Bool, true, false, ◌&&◌, ◌||◌, not, ℤ, Option, Some, None, is_some, is_none, List, [], ◌∷◌, ◌++◌, length, map, flat_map, sum, slice_get, AllPairs}
use Rattle.std.specs.List.{list_all, list_any, range_with_len}
use Rattle.tm_base.specs.declared.ask.Ask.{Ask}
use Rattle.tm_base.specs.declared.definition.Bound.{Bound}
use Rattle.tm_base.specs.declared.definition.Def.{Def}
use Rattle.tm_base.specs.declared.definition.Kind.{Kind}
use Rattle.tm_base.specs.declared.definition.Kind.TheVariants.{Struct, Union, Enum}
use Rattle.tm_base.specs.declared.definition.NamedRow.{NamedRow}
use Rattle.tm_base.specs.declared.definition.RefRow.{RefRow}
use Rattle.tm_base.specs.declared.definition.Repr.{Repr}
use Rattle.tm_base.specs.declared.definition.Variant.{Variant}
use Rattle.tm_base.specs.declared.ground.Ground.{Ground, out-Ground, Row_of-Ground, end_of-Ground, more_of-Ground, Named, Tuple', Array', Wrap'}
use Rattle.tm_base.specs.declared.ground.Ground.TheOpen.{Ground-F}
use Rattle.tm_base.specs.declared.ground.Primitive.{Primitive}
use Rattle.tm_base.specs.declared.ground.Primitive.TheVariants.{I64}
use Rattle.tm_base.specs.declared.limit.LimitKind.TheVariants.{Fields, Variants}
use Rattle.tm_base.specs.declared.profile.Profile.{Profile}
use Rattle.tm_base.specs.Expanded.{expanded}
use Rattle.tm_base.specs.Integers.{is_integer, is_tag_type, fits_integer}
use Rattle.tm_base.specs.Limits.{limit_number}
use Rattle.tm_base.specs.Parts.{is_whole}
use Rattle.tm_base.specs.Spelled.{ends, spelled}

-- the type and all types that are written in it: elements, what wrappers hold, those of these, and so on
unfoldable mutual
  pub written_types : Ground → List Ground
  written_types (Tuple' shape row) = Tuple' shape row ∷ row_types row
  written_types (Array' shape row n) = Array' shape row n ∷ row_types row
  written_types (Wrap' w shape row) = Wrap' w shape row ∷ row_types row
  written_types g = g ∷ []

  pub row_types : {m : _} → Row_of-Ground m → List Ground
  row_types end_of-Ground = []
  row_types (more_of-Ground g gs) = written_types g ++ row_types gs

-- All types of a world: its named types, and what is written as an argument, a field and a pointee and in
-- a question.
abbrev pub all_types : List NamedRow → List RefRow → List Ask → List Ground
all_types named refs questions =
    map (λ k. Named (record { 0 = k })) (range_with_len 0 (length named))
    ++ flat_map written_types (
    flat_map (λ row. row.args) named
    ++ flat_map (λ row. flat_map (λ types. types) row.types) named
    ++ map (λ row. row.pointee) refs
    ++ flat_map (λ ask. ask.src ∷ ask.dst ∷ []) questions)

-- Numbers name rows, a `NonZero` holds an integer, and a tuple has an element.
abbrev pub is_head_in_form : ℕ → ℕ → Ground-F Ground → Bool
is_head_in_form named refs (Ground-F.Tuple gs) = nat_lt 0 (length gs)
is_head_in_form named refs (Ground-F.Named id) = nat_lt id.0 named
is_head_in_form named refs (Ground-F.NonZero p) = is_integer p
is_head_in_form named refs (Ground-F.Ref r) = nat_lt r.0 refs
is_head_in_form named refs _ = true

-- What is asked of a type that is handed in with these tables: so it is of each type written in it, and
-- no part by value is deeper than the limit.
unfoldable pub is_type_over : Profile → List Def → List NamedRow → List RefRow → Ground → Bool
is_type_over profile defs named refs g =
    list_all (λ h. is_head_in_form (length named) (length refs) (out-Ground h)) (written_types g) && is_whole (expanded profile defs named g)

-- What holds of each type of a world: besides, followed through elements, arguments and pointees it
-- doesn't come back to itself. That no part is deeper than the limit says that none holds itself.
abbrev pub is_type_in_form : Profile → List Def → List NamedRow → List RefRow → Ground → Bool
is_type_in_form profile defs named refs g =
    is_head_in_form (length named) (length refs) (out-Ground g) && is_whole (expanded profile defs named g) && ends (spelled named refs g)

-- each type of a world
unfoldable pub are_types_in_form : Profile → List Def → List NamedRow → List RefRow → List Ask → Bool
are_types_in_form profile defs named refs questions = list_all (is_type_in_form profile defs named refs) (all_types named refs questions)

-- two numbers below some number
abbrev pub is_bound_known : ℕ → Bound → Bool
is_bound_known regions bound = nat_lt bound.longer.0 regions && nat_lt bound.shorter.0 regions

-- each number of a region names one
unfoldable pub are_regions_known : ℕ → List Bound → List NamedRow → List RefRow → Bool
are_regions_known regions bounds named refs =
    list_all (is_bound_known regions) bounds
    && list_all (λ row. list_all (λ region. nat_lt region.0 regions) row.regions) named
    && list_all (λ row. nat_lt row.region.0 regions) refs

-- a list of types for each variant, and in it one type for each field
abbrev pub has_its_types : List Variant → List (List Ground) → Bool
has_its_types [] [] = true
has_its_types [] (gs ∷ types) = false
has_its_types (v ∷ variants) [] = false
has_its_types (v ∷ variants) (gs ∷ types) = (length v.fields == length gs) && has_its_types variants types

-- a named type has what its definition asks for
abbrev pub is_row_of : Option Def → NamedRow → Bool
is_row_of None row = false
is_row_of (Some def) row = has_its_types def.variants row.types

-- each named type is one of a definition that there is, with the lists and types that it asks for
unfoldable pub are_rows_in_form : List Def → List NamedRow → Bool
are_rows_in_form defs named = list_all (λ row. is_row_of (slice_get defs row.def.0) row) named

-- a power of two from 1 to 2 ^ 29
abbrev pub is_alignment : ℕ → Bool
is_alignment n = list_any (λ k. n == 2 ^ k) (range_with_len 0 30)

-- a number that is written passes a test
abbrev pub is_absent_or : (ℕ → Bool) → Option ℕ → Bool
is_absent_or test None = true
is_absent_or test (Some n) = test n

-- how many fields all variants have
abbrev pub field_total : List Variant → ℕ
field_total variants = sum (map (λ v. length v.fields) variants)

-- the tag's type is an integer of at most 64 bits; with `C` some variant has a field
abbrev pub is_tag_in_form : Repr → List Variant → Option Primitive → Bool
is_tag_in_form repr variants None = true
is_tag_in_form repr variants (Some p) = is_tag_type p && (not repr.c || nat_lt 0 (field_total variants))

-- on an enum: nothing; or `C`, an integer, or both, where there is a variant
abbrev pub is_enum_repr : Repr → List Variant → Bool
is_enum_repr repr variants =
    not repr.transparent && is_none repr.packed && is_none repr.align && is_tag_in_form repr variants repr.tag
    && (not (repr.c || is_some repr.tag) || nat_lt 0 (length variants))

-- on a struct or a union: no tag; not both of `packed` and `align`; `transparent` alone and on a struct
abbrev pub is_repr_in_form : Kind → Repr → List Variant → Bool
is_repr_in_form Enum repr variants = is_enum_repr repr variants
is_repr_in_form Struct repr variants =
    is_none repr.tag && (is_none repr.packed || is_none repr.align)
    && (not repr.transparent || (not repr.c && is_none repr.packed && is_none repr.align))
is_repr_in_form Union repr variants =
    is_none repr.tag && (is_none repr.packed || is_none repr.align) && not repr.transparent

-- a discriminant is one of the integer representation, or an `i64` without one
abbrev pub is_value_in_form : Profile → Option Primitive → ℤ → Bool
is_value_in_form profile None value = fits_integer profile I64 value
is_value_in_form profile (Some p) value = fits_integer profile p value

-- a struct and a union are one variant, and a union has a field
abbrev pub are_variants_in_form : Kind → List Variant → Bool
are_variants_in_form Struct variants = length variants == 1
are_variants_in_form Union variants = (length variants == 1) && nat_lt 0 (field_total variants)
are_variants_in_form Enum variants = true

-- a definition: representation, alignments, variants, discriminants and counts
abbrev pub is_def_in_form : Profile → Def → Bool
is_def_in_form profile def =
    is_repr_in_form def.kind def.repr def.variants
    && is_absent_or is_alignment def.repr.packed && is_absent_or is_alignment def.repr.align
    && are_variants_in_form def.kind def.variants
    && list_all (λ v. is_value_in_form profile def.repr.tag v.value) def.variants
    && nat_le (length def.variants) (limit_number Variants) && nat_le (field_total def.variants) (limit_number Fields)

-- each definition of a world
unfoldable pub are_defs_in_form : Profile → List Def → Bool
are_defs_in_form profile = list_all (is_def_in_form profile)

-- no item stands twice
pub record AreDistinct {X : Type 0} (xs : List X) : Type 0 where
  pub apart : AllPairs (λ x y. x ≢ y) xs

-- no two variants of a definition have one discriminant
pub record AreValuesDistinct (defs : List Def) : Type 0 where
  pub apart : (i : ℕ) → i < length defs → (d : Def) → slice_get defs i ≡ Some d → AllPairs (λ v u. v.value ≢ u.value) d.variants
