-- Sets of states, and pairs of them, by numbers.
use Rattle.std.specs.Prelude.{◌≡◌, ℕ, ◌<◌, Option, Some, None, List, [], ◌∷◌, map, length, Contains}
use Rattle.std.specs.Global.{Vec, Box}
use Rattle.std.specs.List.{slice_index_or}
use Rattle.tm_walk.specs.declared.way.Pair.{Pair}
use Rattle.tm_walk.specs.declared.way.Reached.{Reached}
use Rattle.tm_walk.specs.declared.way.Way.{Way}
use Rattle.tm_walk.specs.Layers.{Entry}

-- a set under its states
abbrev pub Row : Type 0
Row = Vec ℕ × List ℕ

-- the sets of an index, in the order of their numbers
abbrev pub sets_of : List Row → List (List ℕ)
sets_of rows = map (λ row. row.1) rows

-- each stands under its own states, and no two are one
abbrev pub AreNumbered : List Row → Type 0
AreNumbered [] = Unit {0}
AreNumbered (row ∷ rows) = (row.0.items ≡ row.1) × (¬ Contains (sets_of rows) row.1) × AreNumbered rows

-- a pair of sets reached by a way, and that way
abbrev pub entry_by : List ℕ → List ℕ → Way → Entry
entry_by src dst way = record { src = src; dst = dst; parent = way.parent; cell = way.cell }

-- a pair that was reached
abbrev pub reached_entry : Reached → Entry
reached_entry pair = entry_by pair.src pair.dst pair.way

-- the only pair, or else several
abbrev pub only_or : Option Reached → List Entry → List Entry
only_or None several = several
only_or (Some only) several = reached_entry only ∷ []

-- several pairs, where there are some
abbrev pub pairs_in : Option (Box (List Entry)) → List Entry
pairs_in None = []
pairs_in (Some several) = several.value

-- beside an only pair stand no several
abbrev pub IsAlone : Option Reached → Option (Box (List Entry)) → Type 0
IsAlone None several = Unit {0}
IsAlone (Some only) several = several ≡ None

abbrev pub way_of : Entry → Way
way_of e = record { parent = e.parent; cell = e.cell }

module _ (sources targets : List (List ℕ)) where
  -- the pair that two numbers stand for
  abbrev pub entry_of : Pair × Way → Entry
  entry_of row = entry_by (slice_index_or sources row.0.source []) (slice_index_or targets row.0.target []) row.1

  abbrev pub entries_of : List (Pair × Way) → List Entry
  entries_of rows = map entry_of rows

  -- each number is one of a set
  abbrev pub AreWithin : List (Pair × Way) → Type 0
  AreWithin rows = (row : Pair × Way) → Contains rows row → (row.0.source < length sources) × (row.0.target < length targets)
