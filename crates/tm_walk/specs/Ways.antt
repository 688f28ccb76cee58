-- Ways back through layers, and the cells along them.
use Rattle.std.specs.Prelude.{◌≡◌, ℕ, List, [], ◌∷◌, ◌++◌, map, reverse, Option, Some, None, slice_get}
use Rattle.smallvec.specs.SmallVec.{SmallVec}
use Rattle.tm_base.specs.Cells.{Word}
use Rattle.tm_walk.specs.declared.way.Way.{Way}

-- the ways of layers, newest first, of those that stand oldest first
abbrev pub newest_first : List (SmallVec Way) → List (List Way)
newest_first layers = reverse (map (λ ways. ways.items) layers)

abbrev pub cells_by : Option Way → (ℕ → Word) → Word
cells_by None before = []
cells_by (Some way) before = before way.parent ++ way.cell ∷ []

-- the cells along the ways back from the newest layer's k-th pair, the first cell first
abbrev pub cells_to : List (List Way) → ℕ → Word
cells_to [] k = []
cells_to (ways ∷ older) k = cells_by (slice_get ways k) (cells_to older)

-- ways lead from there back to the first layer
abbrev pub LeadsBack : List (List Way) → ℕ → Type 0
LeadsBack [] k = Unit {0}
LeadsBack (ways ∷ older) k = (way : Way) × (slice_get ways k ≡ Some way) × LeadsBack older way.parent
