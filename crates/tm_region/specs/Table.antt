-- The table of an order: in the row of a region, a test for each region.
use Rattle.std.specs.Prelude.{◌≡◌, ℕ, Bool, true, false, ◌==◌, ◌&&◌, ◌||◌, List, [], replicate, slice_index_or, slice_set}
use Rattle.tm_base.specs.declared.definition.Bound.{Bound}
use Rattle.tm_base.specs.declared.definition.RegionId.{RegionId}
use Rattle.tm_base.specs.Outlives.{static}

-- the test at a place of a row; none passes behind its end
abbrev pub stands_in : List Bool → ℕ → Bool
stands_in row b = slice_index_or row b false

-- the test at two places; none passes outside the table
abbrev pub has : List (List Bool) → ℕ → ℕ → Bool
has rows a b = stands_in (slice_index_or rows a []) b

-- the row of a region that leads to itself alone
abbrev pub lone_row : ℕ → List Bool
lone_row region = slice_set (replicate 17 false) region true

-- a bound is taken in: what led to its longer region leads to all that its shorter one led to
abbrev pub IsAdded : Bound → List (List Bool) → List (List Bool) → Type 0
IsAdded bound old new = (a b : ℕ) → has new a b ≡ (has old a b || (has old a bound.longer.0 && has old bound.shorter.0 b))

-- by the table, a chain of bounds leads from the first to the second
abbrev pub leads_in : List (List Bool) → RegionId → RegionId → Bool
leads_in rows a b = (a.0 == b.0) || has rows a.0 b.0

-- by the table, the first outlives the second
abbrev pub outlives_in : List (List Bool) → RegionId → RegionId → Bool
outlives_in rows a b = leads_in rows a b || leads_in rows a static
