-- Types beside their texts in a world, where numbers are places in lists of the named types and of the
-- references.
use Rattle.std.specs.Prelude.{◌≡◌, ℕ, List, IsSorted}
use Rattle.std.specs.Cmp.Lexicographic.{slice_cmp}
use Rattle.std.specs.List.{AllZip}
use Rattle.std.specs.Ordering.{nat_cmp}
use Rattle.tm_base.specs.declared.ground.Ground.{Ground}
use Rattle.tm_base.specs.declared.world.World.{World}
use Rattle.tm_base.specs.Texts.{text_of}
use Rattle.tm_base.specs.Worlds.{tables_of}
use Rattle.tm_ground.specs.declared.ordering.Texted.{Texted}
use Rattle.tm_ground.specs.Closed.{Closed, closed}
use Rattle.tm_ground.specs.Numbered.{IsNumbered}

-- the closed type that stands beside a text
abbrev pub type_of_texted : Texted → Closed
type_of_texted texted = closed texted.ty

module _ (rows refs : List Closed) (world : World) where
  -- a text is that of a type by its numbers
  pub record IsTextOf (c : Closed) (text : List ℕ) : Type 0 where
    pub number : Ground
    pub numbered : IsNumbered rows refs c number
    pub same : text ≡ text_of (tables_of world) number

  -- a text is that of the type beside it
  abbrev pub HasItsText : Texted → Type 0
  HasItsText texted = IsTextOf (type_of_texted texted) texted.text

  -- types whose texts don't fall in byte order
  pub record AreInTextOrder (cs : List Closed) : Type 0 where
    pub texts : List (List ℕ)
    pub each : AllZip IsTextOf cs texts
    pub sorted : IsSorted (slice_cmp nat_cmp) texts
