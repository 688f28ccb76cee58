-- The faults of a definition, by itself and by what is known of the fields.
use Rattle.std.specs.Prelude.{ℕ, nat_le, Bool, false, ◌&&◌, not, Option, is_some, is_none, List}
use Rattle.std.specs.List.{list_any}
use Rattle.tm_base.specs.declared.answer.Why.{Why}
use Rattle.tm_base.specs.declared.answer.Why.TheVariants.{NoRepr, CEnumRange, TransparentFields, PackedHoldsAlign}
use Rattle.tm_base.specs.declared.definition.Def.{Def}
use Rattle.tm_base.specs.declared.definition.Kind.{Kind}
use Rattle.tm_base.specs.declared.definition.Kind.TheVariants.{Struct, Enum}
use Rattle.tm_base.specs.declared.definition.Repr.{Repr}
use Rattle.tm_base.specs.declared.definition.Variant.{Variant}
use Rattle.tm_base.specs.Faults.{lacks_repr, or_else, sized_count, when}
use Rattle.tm_base.specs.Integers.{fits_signed}
use Rattle.tm_layout.specs.declared.facts.Facts.{Facts}
use Rattle.tm_layout.specs.Capped.{weight_fault}
use Rattle.tm_layout.specs.Reckoned.{layouts_in, only_fields}

-- some discriminant is no `i32`
abbrev pub passes_i32_in : List Variant → Bool
passes_i32_in variants = list_any (λ v. not (fits_signed 4 v.value)) variants

-- an enum with `C` and no integer has a discriminant that its tag doesn't hold
abbrev pub lacks_range_in : Kind → Repr → List Variant → Bool
lacks_range_in Enum repr variants = repr.c && is_none repr.tag && passes_i32_in variants
lacks_range_in _ repr variants = false

-- the first of the faults that are asked whatever the fields are
abbrev pub own_fault_in : Def → Option Why
own_fault_in def = or_else (when (lacks_repr def.kind def.repr) NoRepr) (when (lacks_range_in def.kind def.repr def.variants) CEnumRange)

-- a transparent struct has two fields or more that aren't of size 0 and alignment 1
abbrev pub two_sized_in : Kind → Repr → List (List Facts) → Bool
two_sized_in Struct repr facts = repr.transparent && nat_le 2 (sized_count (layouts_in (only_fields facts)))
two_sized_in _ repr facts = false

-- the first of the faults that are asked where the fields have a layout
abbrev pub layout_fault_in : Kind → Repr → List (List Facts) → Bool → ℕ → Option Why
layout_fault_in kind repr facts aligned weight =
    or_else (when (two_sized_in kind repr facts) TransparentFields)
    (or_else (when (is_some repr.packed && aligned) PackedHoldsAlign) (weight_fault weight))

-- a transparent struct with a nullable field
abbrev pub nullable_in : Kind → Repr → Bool → Bool
nullable_in Struct repr field = repr.transparent && field
nullable_in _ repr field = false
