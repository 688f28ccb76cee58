-- What an order answers.
use Rattle.std.specs.Prelude.{◌↔◌, Bool, IsTrue, List}
use Rattle.tm_base.specs.declared.definition.Bound.{Bound}
use Rattle.tm_base.specs.declared.definition.RegionId.{RegionId}
use Rattle.tm_base.specs.Outlives.{Outlives}
use Rattle.tm_region.specs.Table.{outlives_in}

-- the order of these bounds: it tells of each two regions whether the first outlives the second
pub record IsOrderOf (bounds : List Bound) (order : List (List Bool)) : Type 0 where
  pub exact : (a b : RegionId) → IsTrue (outlives_in order a b) ↔ Outlives bounds a b
