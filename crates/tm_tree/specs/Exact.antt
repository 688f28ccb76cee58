-- What the tree of a type of a world is.
use Rattle.std.specs.Prelude.{◌↔◌, ◌<◌, ◌^◌, ℕ, Bool}
use Rattle.tm_base.specs.declared.ground.Ground.{Ground}
use Rattle.tm_base.specs.declared.tree.Tree.{Tree}
use Rattle.tm_base.specs.Cells.{Word}
use Rattle.tm_base.specs.Layout.{size_of}
use Rattle.tm_base.specs.Parts.{HasNoAlternatives}
use Rattle.tm_base.specs.Profiles.{pointer_size}
use Rattle.tm_base.specs.Shapes.{leaves_of, HasNoChoice, HasSize}
use Rattle.tm_base.specs.Tables.{Tables, expanded_in}
use Rattle.tm_base.specs.Transmutes.{holds}
use Rattle.tm_base.specs.Trees.{TreeWord}
use Rattle.tm_base.specs.Valid.{Valid}

pub record IsTreeOf (tables : Tables) (g : Ground) (tree : Tree) : Type 0 where
  -- its words are the values of the type, whatever references may hold, with private types kept or not
  pub words : (A : ℕ → ℕ → Bool) (keep : Bool) (w : Word) → TreeWord (pointer_size tables.profile) (holds A) keep tree w ↔ Valid (holds A) keep (expanded_in tables g) w
  -- its leaves are few enough to be numbered
  pub leaves : leaves_of (pointer_size tables.profile) tree < 2 ^ 31
  -- it has no alternatives where the type has none
  pub single : HasNoAlternatives (expanded_in tables g) → HasNoChoice tree
  -- each of its words has the type's size
  pub sized : HasSize (pointer_size tables.profile) (size_of (expanded_in tables g)) tree
