-- The table while its rows are made, each after those that it rests on.
use Rattle.std.specs.Prelude.{◌≡◌, ℕ, false, IsTrue, Option, Some, List, [], ◌∷◌, slice_get, ⊤}
use Rattle.tm_base.specs.declared.definition.NamedRow.{NamedRow}
use Rattle.tm_base.specs.declared.ground.Ground.{Ground, Named}
use Rattle.tm_base.specs.declared.ground.NamedId.{NamedId}
use Rattle.tm_base.specs.Expanded.{Expanded}
use Rattle.tm_base.specs.Parts.{is_whole}
use Rattle.tm_base.specs.Tables.{Tables, expanded_in}
use Rattle.tm_layout.specs.declared.facts.Facts.{Facts}
use Rattle.tm_layout.specs.declared.row.RowFacts.{RowFacts}
use Rattle.tm_layout.specs.Known.{IsFactsOf}
use Rattle.tm_layout.specs.Made.{AreRowsOf, EachIs, IsKnown, is_missing, row_at}

-- no part of the type is past the greatest depth
pub record IsWrittenOut (tables : Tables) (g : Ground) : Type 0 where
  pub whole : IsTrue (is_whole (expanded_in tables g))

-- what holds of each named type that has this row
abbrev pub OfRow : Tables → NamedRow → (Expanded → Type 0) → Type 0
OfRow tables row Fact =
    (id : NamedId) → slice_get tables.named id.0 ≡ Some row → IsWrittenOut tables (Named id) → Fact (expanded_in tables (Named id))

-- a table in which each row that is made is right, and those that it rests on are made too
pub record AreRowsClosed (tables : Tables) (rows : List (Option RowFacts)) : Type 0 where
  pub right : AreRowsOf tables rows
  pub closed : (k : ℕ) (row : RowFacts) → row_at rows k ≡ Some row → IsKnown tables rows (Named (record { 0 = k }))

-- no row that was made is missing afterwards
pub record Grows (before after : List (Option RowFacts)) : Type 0 where
  pub kept : (k : ℕ) → is_missing before k ≡ false → is_missing after k ≡ false

-- a table is right, and has all the rows that it had
pub record IsGrown (tables : Tables) (before after : List (Option RowFacts)) : Type 0 where
  pub closed : AreRowsClosed tables after
  pub grows : Grows before after

-- the fields of each variant of a row are known
abbrev pub AreKnown : Tables → List (Option RowFacts) → List (List Ground) → Type 0
AreKnown tables rows = EachIs (EachIs (IsKnown tables rows))

-- two lists of one length, with a fact of each two items at one place
abbrev pub EachMatches : {X Y : Type 0} → (X → Y → Type 0) → List X → List Y → Type 0
EachMatches Fact [] [] = ⊤
EachMatches Fact [] (y ∷ ys) = ⊥
EachMatches Fact (x ∷ xs) [] = ⊥
EachMatches Fact (x ∷ xs) (y ∷ ys) = Fact x y × EachMatches Fact xs ys

-- the facts of some types, in order
abbrev pub AreFactsFor : Tables → List Ground → List Facts → Type 0
AreFactsFor tables = EachMatches (λ g facts. IsFactsOf (expanded_in tables g) facts)
