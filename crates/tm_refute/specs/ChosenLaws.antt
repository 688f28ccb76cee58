-- The laws of the refutation of a question.
use Rattle.std.specs.Prelude.{◌≡◌, ◌≤◌, length}
use Rattle.tm_base.specs.declared.ask.Ask.{Ask}
use Rattle.tm_base.specs.declared.world.World.{World}
use Rattle.tm_base.specs.Profiles.{pointer_size}
use Rattle.tm_base.specs.Tables.{Tables}
use Rattle.tm_base.specs.Worlds.{tables_of, IsTypeOver}
use Rattle.tm_refute.specs.Chosen.{IsRefutable, IsRefutationOf}
use Rattle.tm_refute.specs.Refutes.{Refutes}
use Rattle.tm_refute.specs.TextForms.{IsWithin, most_entries}
use Rattle.tm_refute.specs.Written.{IsWritable}
use Rattle.tm_refute.specs.declared.refutation.Refutation.{Refutation}

-- The refutation of a question about types of the world is one: it shows that the answer isn't yes. It hasn't too many
-- entries, and can be written where it isn't too long.
pub record IsGood (world : World) (ask : Ask) (x : Refutation) : Type 0 where
  pub refutable : IsRefutable (tables_of world) ask
  pub refutes : Refutes (tables_of world) ask x
  pub few_entries : length x.entries ≤ most_entries
  pub writable : IsWithin x → IsWritable (pointer_size world.profile) x

abbrev pub AreGood : Type 0
AreGood =
    (world : World) (ask : Ask) (x : Refutation)
    → IsTypeOver (tables_of world) ask.src → IsTypeOver (tables_of world) ask.dst → IsRefutationOf (tables_of world) ask x → IsGood world ask x

-- a question has no other refutation
abbrev pub AreAlone : Type 0
AreAlone = (tables : Tables) (ask : Ask) (x y : Refutation) → IsRefutationOf tables ask x → IsRefutationOf tables ask y → x ≡ y
