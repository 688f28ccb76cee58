-- What the layouts of a world's named types hold, and what is answered from them.
use Rattle.std.specs.Prelude.{◌≡◌, ℕ, Bool, true, false, Option, None, Some, List, length, slice_get, MatchResult, Result}
use Rattle.tm_base.specs.declared.answer.Why.{Why}
use Rattle.tm_base.specs.declared.ground.Ground.{Ground, Named}
use Rattle.tm_base.specs.declared.ground.NamedId.{NamedId}
use Rattle.tm_base.specs.declared.profile.Profile.{Profile}
use Rattle.tm_base.specs.Expanded.{Expanded, too_deep, named}
use Rattle.tm_base.specs.Faults.{has_no_layout}
use Rattle.tm_base.specs.Layout.{align_of, size_of}
use Rattle.tm_base.specs.Parts.{some_within}
use Rattle.tm_base.specs.Places.{place_of, places_of}
use Rattle.tm_base.specs.Tables.{Tables, expanded_in}
use Rattle.tm_base.specs.Worlds.{IsTypeOver}
use Rattle.tm_layout.specs.declared.layouts.Layout.{Layout}
use Rattle.tm_layout.specs.declared.layouts.Layouts.{Layouts}
use Rattle.tm_layout.specs.declared.row.RowFacts.{RowFacts}
use Rattle.tm_layout.specs.Known.{IsFactsOf}
use Rattle.tm_layout.specs.Refusals.{refusal_of}

-- the facts of a named type, and where its fields stand
pub record IsRowOf (t : Expanded) (row : RowFacts) : Type 0 where
  pub facts : IsFactsOf t row.facts
  pub places : refusal_of t ≡ None → row.places ≡ places_of t

-- what a place of a table holds, where there is one
abbrev pub made_in : Option (Option RowFacts) → Option RowFacts
made_in (Some (Some row)) = Some row
made_in _ = None

-- the row of a named type, where it is made
abbrev pub row_at : List (Option RowFacts) → ℕ → Option RowFacts
row_at rows k = made_in (slice_get rows k)

-- a place of a table holds no row yet
abbrev pub is_unmade : Option (Option RowFacts) → Bool
is_unmade (Some None) = true
is_unmade _ = false

-- the row of a named type, which has a place in the table, isn't made yet
abbrev pub is_missing : List (Option RowFacts) → ℕ → Bool
is_missing rows k = is_unmade (slice_get rows k)

-- a table for the named types of a world, in which the rows that are made are right
pub record AreRowsOf (tables : Tables) (rows : List (Option RowFacts)) : Type 0 where
  pub count : length rows ≡ length tables.named
  pub right : (k : ℕ) (row : RowFacts) → row_at rows k ≡ Some row → IsRowOf (expanded_in tables (Named (record { 0 = k }))) row

-- nothing can be said of a type itself: it is past the greatest depth, or its row isn't made yet
abbrev pub lacks_row : List (Option RowFacts) → Expanded → Bool
lacks_row rows too_deep = true
lacks_row rows (named _ id _ _ _) = is_missing rows id.0
lacks_row rows _ = false

-- the type is whole, and the row of each named type that it is or holds by value is made
pub record IsKnown (tables : Tables) (rows : List (Option RowFacts)) (g : Ground) : Type 0 where
  pub none_lacks : some_within (lacks_row rows) (expanded_in tables g) ≡ false

-- what holds of a known type, over each world of the profile for which the rows are right
abbrev pub OfKnown : Profile → List (Option RowFacts) → Ground → (Expanded → Type 0) → Type 0
OfKnown profile rows g Fact =
    (tables : Tables) → profile ≡ tables.profile → AreRowsOf tables rows → IsKnown tables rows g → Fact (expanded_in tables g)

-- a fact of each item
abbrev pub EachIs : {X : Type 0} → (X → Type 0) → List X → Type 0
EachIs {X} Fact xs = (k : ℕ) (x : X) → slice_get xs k ≡ Some x → Fact x

-- made for a world with these tables: for its profile, with a row for each of its named types
pub record IsMadeFor (tables : Tables) (layouts : Layouts) : Type 0 where
  pub profile : layouts.profile ≡ tables.profile
  pub rows : AreRowsOf tables layouts.rows.items
  pub all : (k : ℕ) → is_missing layouts.rows.items k ≡ false

-- what holds of a type over each world that the layouts are made for
abbrev pub OfType : Layouts → Ground → (Expanded → Type 0) → Type 0
OfType layouts g Fact = (tables : Tables) → IsMadeFor tables layouts → IsTypeOver tables g → Fact (expanded_in tables g)

-- what holds of a named type, by its number, over each such world
abbrev pub OfNamed : Layouts → NamedId → (Expanded → Type 0) → Type 0
OfNamed layouts id Fact = (tables : Tables) → IsMadeFor tables layouts → Fact (expanded_in tables (Named id))

-- The layout of a type that has one; else the cause for which it has none.
abbrev pub IsLayoutAnswer : Expanded → Result Layout Why → Type 0
IsLayoutAnswer t result =
    MatchResult result
    (λ layout. (has_no_layout t ≡ false) × (layout.size ≡ size_of t) × (layout.align ≡ align_of t))
    (λ why. (has_no_layout t ≡ true) × (refusal_of t ≡ Some why))

-- where a field of a variant stands, in a type that has a layout and such a field
abbrev pub IsPlaceAnswer : Expanded → ℕ → ℕ → ℕ → Type 0
IsPlaceAnswer t variant_number field_number result =
    (place : ℕ) → has_no_layout t ≡ false → place_of t variant_number field_number ≡ Some place → result ≡ place
