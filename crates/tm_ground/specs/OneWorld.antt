-- That a file has one world.
use Rattle.std.specs.Prelude.{◌≡◌}
use Rattle.tm_base.specs.declared.world.World.{World}
use Rattle.tm_base.specs.Worlds.{tables_of}
use Rattle.tm_ground.specs.Belongs.{BelongsToFile}
use Rattle.tm_names.specs.ApartNames.{HasApartNames}
use Rattle.tm_names.specs.InForm.{IsInForm}
use Rattle.tm_names.specs.declared.resolved.Resolved.{Resolved}

-- two worlds say the same of their types, and ask the same
pub record AreOneWorld (one other : World) : Type 0 where
  pub tables : tables_of one ≡ tables_of other
  pub questions : one.questions ≡ other.questions

-- two worlds that belong to one file do
abbrev pub FilesHaveOneWorld : Type 0
FilesHaveOneWorld =
    (resolved : Resolved) → IsInForm resolved → HasApartNames resolved
    → (one other : World) → BelongsToFile resolved one → BelongsToFile resolved other → AreOneWorld one other
