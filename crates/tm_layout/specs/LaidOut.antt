-- Types of a world that have a layout, and what their definitions and fields are.
use Rattle.std.specs.Prelude.{◌≡◌, ◌≤◌, ℕ, true, false, IsTrue, List, [], length, slice_get, unwrap_or}
use Rattle.tm_base.specs.declared.definition.Def.{Def}
use Rattle.tm_base.specs.declared.ground.Ground.{Ground, Named}
use Rattle.tm_base.specs.declared.ground.NamedId.{NamedId}
use Rattle.tm_base.specs.Expanded.{Expanded, named, variants_of}
use Rattle.tm_base.specs.Faults.{has_no_layout}
use Rattle.tm_base.specs.Places.{places_of}
use Rattle.tm_base.specs.Tables.{Tables, expanded_in}
use Rattle.tm_base.specs.Whole.{has_its_types, is_def_in_form}
use Rattle.tm_base.specs.Worlds.{IsTypeOver}
use Rattle.tm_layout.specs.Made.{EachIs}

-- where the fields of a variant of a type stand
abbrev pub places_at : Expanded → ℕ → List ℕ
places_at t variant_number = unwrap_or (slice_get (places_of t) variant_number) []

module _ (tables : Tables) where
  -- a type over the world whose size and alignment are guaranteed
  pub record IsLaidOut (g : Ground) : Type 0 where
    pub over : IsTypeOver tables g
    pub sound : has_no_layout (expanded_in tables g) ≡ false

  -- the types of a variant's fields, each of which has a place
  pub record AreFieldsOf (id : NamedId) (variant_number : ℕ) (types : List Ground) : Type 0 where
    pub each : EachIs IsLaidOut types
    pub few : length types ≤ 256
    pub sound : has_no_layout (expanded_in tables (Named id)) ≡ false
    pub count : length (places_at (expanded_in tables (Named id)) variant_number) ≡ length types

  -- a named type by its definition and the types of its fields
  pub record IsDefinition (id : NamedId) (def : Def) (types : List (List Ground)) : Type 0 where
    pub whole : expanded_in tables (Named id) ≡ named tables.profile id def.kind def.repr (variants_of (expanded_in tables) def.variants types)
    pub sound : has_no_layout (expanded_in tables (Named id)) ≡ false
    pub in_form : IsTrue (is_def_in_form tables.profile def)
    pub shaped : has_its_types def.variants types ≡ true
    pub each : EachIs (EachIs IsLaidOut) types
