-- Which types have no guaranteed layout, and why: the Rust Reference, "Type layout", and std's page on
-- `Option`, "Representation". That `packed` holds no `align` is the Reference's own rule, in "The alignment
-- modifiers". The order of the causes is this project's, and so is the last one.
use Rattle.std.specs.Prelude.{ℕ, nat_lt, nat_le, Bool, true, false, ◌&&◌, ◌||◌, not, if◌then◌else◌, Option, Some, None, is_some, is_none, List, [], ◌∷◌, ◌+◌}
use Rattle.tm_base.specs.declared.answer.Why.{Why}
use Rattle.tm_base.specs.declared.answer.Why.TheVariants.{NoRepr, Tuple, OptionNotListed, CEnumRange, TransparentFields, PackedHoldsAlign, TooLarge}
use Rattle.tm_base.specs.declared.definition.Kind.{Kind}
use Rattle.tm_base.specs.declared.definition.Kind.TheVariants.{Struct, Union, Enum}
use Rattle.tm_base.specs.declared.definition.Repr.{Repr}
use Rattle.tm_base.specs.Expanded.{Expanded, Fields, Variants, tuple, nonzero, wrap, ref, named, no_fields, field, no_variants, variant}
use Rattle.tm_base.specs.Integers.{fits_signed}
use Rattle.tm_base.specs.Layout.{Layout, is_trivial, only, variant_layouts}
use Rattle.tm_base.specs.Parts.{some_part, some_within, is_option}
use Rattle.tm_base.specs.Weight.{weight_limit, weight_of}

-- No value has all its bytes 0: a reference, a `NonZero`, or a `repr(transparent)` struct round one of
-- these. `Option<T>` is listed exactly where T is such a type.
unfoldable mutual
  pub is_nullable : Expanded → Bool
  is_nullable (ref profile r) = true
  is_nullable (nonzero profile p) = true
  is_nullable (named profile id Struct repr variants) = repr.transparent && variant_nullable variants
  is_nullable t = false

  pub field_nullable : Fields → Bool
  field_nullable no_fields = false
  field_nullable (field public t rest) = is_nullable t || field_nullable rest

  pub variant_nullable : Variants → Bool
  variant_nullable no_variants = false
  variant_nullable (variant value members rest) = field_nullable members

-- a struct is neither `C` nor `transparent`, a union isn't `C`, or an enum has neither `C` nor an integer
abbrev pub lacks_repr : Kind → Repr → Bool
lacks_repr Struct repr = not (repr.c || repr.transparent)
lacks_repr Union repr = not repr.c
lacks_repr Enum repr = not (repr.c || is_some repr.tag)

-- some discriminant is no `i32`
abbrev pub passes_i32 : Variants → Bool
passes_i32 no_variants = false
passes_i32 (variant value members rest) = not (fits_signed 4 value) || passes_i32 rest

-- an enum with `C` and no integer has a discriminant that its tag doesn't hold
abbrev pub lacks_range : Kind → Repr → Variants → Bool
lacks_range Enum repr variants = repr.c && is_none repr.tag && passes_i32 variants
lacks_range _ _ _ = false

-- how many of some fields aren't of size 0 and alignment 1
abbrev pub sized_count : List Layout → ℕ
sized_count [] = 0
sized_count (l ∷ ls) = (if is_trivial l then 0 else 1) + sized_count ls

-- a transparent struct has two fields or more that aren't of size 0 and alignment 1
abbrev pub has_two_sized : Expanded → Bool
has_two_sized (named profile id Struct repr variants) = repr.transparent && nat_le 2 (sized_count (only (variant_layouts variants)))
has_two_sized t = false

-- `align` is written on the type
abbrev pub has_align : Expanded → Bool
has_align (named profile id kind repr _) = is_some repr.align
has_align t = false

-- `packed` is written on the type
abbrev pub is_packed : Expanded → Bool
is_packed (named profile id kind repr _) = is_some repr.packed
is_packed t = false

-- a cause, where a test says so
abbrev pub when : Bool → Why → Option Why
when b why = if b then Some why else None

-- the first cause, where there is one, else the second
abbrev pub or_else : Option Why → Option Why → Option Why
or_else None other = other
or_else (Some why) other = Some why

-- the first of the causes that are asked of a type whatever its parts are
abbrev pub own_fault : Expanded → Option Why
own_fault (tuple members) = Some Tuple
own_fault (wrap w t) = when (is_option w && not (is_nullable t)) OptionNotListed
own_fault (named profile id kind repr variants) = or_else (when (lacks_repr kind repr) NoRepr) (when (lacks_range kind repr variants) CEnumRange)
own_fault t = None

-- the first of the causes that are asked of a type only where its parts have a layout
abbrev pub layout_fault : Expanded → Option Why
layout_fault t =
    or_else (when (has_two_sized t) TransparentFields)
    (or_else (when (is_packed t && some_part has_align t) PackedHoldsAlign)
    (when (nat_lt weight_limit (weight_of t)) TooLarge))

-- one of the causes holds of the type by itself, whatever its parts are
abbrev pub has_cause : Expanded → Bool
has_cause t = is_some (own_fault t) || is_some (layout_fault t)

-- The first cause for which a type is at fault. The last three are asked only where no part by value is or
-- holds a type at fault.
unfoldable pub fault_of : Expanded → Option Why
fault_of t = or_else (own_fault t) (if some_part has_cause t then None else layout_fault t)

-- the type is at fault, or holds by value, at any depth, a type at fault
abbrev pub has_no_layout : Expanded → Bool
has_no_layout = some_within has_cause
