-- What is kept by each file whose names are resolved: no count passes its limit, each number names what
-- there is, and definitions are in form. So it is also with other questions in place of the file's, where
-- these are in form.
use Rattle.std.specs.Prelude.{ℕ, ◌+◌, ◌<◌, ◌≤◌, nat_lt, nat_le, ◌==◌, Bool, true, false, ◌&&◌, ◌^◌, IsTrue, List, [], ◌∷◌, ◌++◌, length, flat_map}
use Rattle.std.specs.List.{list_all}
use Rattle.tm_base.specs.declared.definition.Def.{Def}
use Rattle.tm_base.specs.declared.definition.Variant.{Variant}
use Rattle.tm_base.specs.declared.limit.LimitKind.TheVariants.{Definitions, Questions, Lifetimes, TypeNodes}
use Rattle.tm_base.specs.Integers.{is_integer}
use Rattle.tm_base.specs.Limits.{limit_number}
use Rattle.tm_base.specs.Whole.{are_defs_in_form, is_bound_known, AreValuesDistinct}
use Rattle.tm_names.specs.declared.resolved.Life.{Life}
use Rattle.tm_names.specs.declared.resolved.Life.TheVariants.{Static, Declared, Param}
use Rattle.tm_names.specs.declared.resolved.Open.{Open, Row_of-Open, end_of-Open, more_of-Open, Tuple', Array', NonZero, Wrap', Named', Ref'}
use Rattle.tm_names.specs.declared.resolved.Resolved.{Resolved}

-- the types that are written in a type: itself, its elements, its arguments or what it points to, those of
-- these, and so on
unfoldable mutual
  pub written : Open → List Open
  written (Tuple' shape row) = Tuple' shape row ∷ row_written row
  written (Array' shape row n) = Array' shape row n ∷ row_written row
  written (Wrap' w shape row) = Wrap' w shape row ∷ row_written row
  written (Named' def lives shape row) = Named' def lives shape row ∷ row_written row
  written (Ref' life mutable shape row) = Ref' life mutable shape row ∷ row_written row
  written t = t ∷ []

  pub row_written : {m : _} → Row_of-Open m → List Open
  row_written end_of-Open = []
  row_written (more_of-Open t ts) = written t ++ row_written ts

-- where there are so many regions, a declared lifetime is one of them
abbrev pub is_life_known : ℕ → Life → Bool
is_life_known regions Static = true
is_life_known regions (Declared k) = nat_lt k regions
is_life_known regions (Param k) = true

-- where there are so many definitions and regions: a type's own numbers name some, an array's length has 32
-- bits, and a `NonZero` holds an integer
abbrev pub is_head_known : ℕ → ℕ → Open → Bool
is_head_known defs regions (Array' shape row n) = nat_lt n (2 ^ 32)
is_head_known defs regions (NonZero p) = is_integer p
is_head_known defs regions (Named' def lives shape row) = nat_lt def.0 defs && list_all (is_life_known regions) lives
is_head_known defs regions (Ref' life mutable shape row) = is_life_known regions life
is_head_known defs regions t = true

-- so it is of each type that is written in a type, and these aren't too many
abbrev pub is_type_in_form : Resolved → Open → Bool
is_type_in_form resolved t =
    list_all (is_head_known (length resolved.defs) (length resolved.regions)) (written t) && nat_le (length (written t)) (limit_number TypeNodes)

-- a type for each field
abbrev pub is_variant_typed : List Variant → List (List Open) → Bool
is_variant_typed [] [] = true
is_variant_typed [] (ts ∷ types) = false
is_variant_typed (v ∷ variants) [] = false
is_variant_typed (v ∷ variants) (ts ∷ types) = (length v.fields == length ts) && is_variant_typed variants types

-- a list for each definition, in it one for each variant, and in that a type for each field
abbrev pub are_defs_typed : List Def → List (List (List Open)) → Bool
are_defs_typed [] [] = true
are_defs_typed [] (d ∷ types) = false
are_defs_typed (def ∷ defs) [] = false
are_defs_typed (def ∷ defs) (d ∷ types) = is_variant_typed def.variants d && are_defs_typed defs types

-- the types of all fields, and both types of each question
abbrev pub field_types : Resolved → List Open
field_types resolved = flat_map (λ variants. flat_map (λ types. types) variants) resolved.types

abbrev pub asked_types : Resolved → List Open
asked_types resolved = flat_map (λ ask. ask.src ∷ ask.dst ∷ []) resolved.asks

pub record IsInForm (resolved : Resolved) : Type 0 where
  pub few_defs : length resolved.defs ≤ limit_number Definitions
  pub few_regions : length resolved.regions ≤ limit_number Lifetimes + 1
  -- the first of them is `'static`
  pub some_region : 0 < length resolved.regions
  pub few_asks : length resolved.asks ≤ limit_number Questions
  pub defs_in_form : IsTrue (are_defs_in_form resolved.profile resolved.defs)
  pub values_distinct : AreValuesDistinct resolved.defs
  pub bounds_known : IsTrue (list_all (is_bound_known (length resolved.regions)) resolved.bounds)
  pub defs_typed : IsTrue (are_defs_typed resolved.defs resolved.types)
  pub fields_in_form : IsTrue (list_all (is_type_in_form resolved) (field_types resolved))
  pub asks_in_form : IsTrue (list_all (is_type_in_form resolved) (asked_types resolved))
