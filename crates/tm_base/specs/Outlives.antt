-- Which region outlives which: the reflexive and transitive closure of the written bounds, where
-- `'static`, the region 0, outlives all.
use Rattle.std.specs.Prelude.{◌⊎◌, List, Contains}
use Rattle.tm_base.specs.declared.definition.Bound.{Bound}
use Rattle.tm_base.specs.declared.definition.RegionId.{RegionId}
use Rattle.tm_base.specs.Reaches.{Chain}

-- the region of what lives to the end
abbrev pub static : RegionId
static = record { 0 = 0 }

-- a bound says it
abbrev pub IsBound : List Bound → RegionId → RegionId → Type 0
IsBound bounds a b = Contains bounds (record { longer = a; shorter = b })

-- a chain of bounds leads from the first to the second, or to `'static`
abbrev pub Outlives : List Bound → RegionId → RegionId → Type 0
Outlives bounds a b = Chain (IsBound bounds) a b ⊎ Chain (IsBound bounds) a static
