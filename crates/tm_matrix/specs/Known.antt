-- Types of a world with whether they can be judged.
use Rattle.std.specs.Prelude.{◌≡◌, ◌↔◌, true, IsTrue, List, map, Option, Some, None}
use Rattle.tm_base.specs.declared.ground.Ground.{Ground}
use Rattle.tm_base.specs.Faults.{has_no_layout}
use Rattle.tm_base.specs.Reaches.{IsJudged}
use Rattle.tm_base.specs.Tables.{Tables, expanded_in}
use Rattle.tm_base.specs.Worlds.{IsTypeOver}
use Rattle.tm_matrix.specs.declared.known.Known.{Known}
use Rattle.tm_matrix.specs.Matrix.{bytes_of}

-- the types without what is known of them
abbrev pub grounds : List Known → List Ground
grounds knowns = map (λ known. known.ground) knowns

module _ (tables : Tables) where
  -- a type over the world, and what is known of it
  pub record IsKnown (known : Known) : Type 0 where
    pub over : IsTypeOver tables known.ground
    pub judged : IsTrue known.judged ↔ IsJudged tables known.ground

  -- the array of a type's bytes, where it has a layout
  abbrev pub IsBytesAnswer : Ground → Option Known → Type 0
  IsBytesAnswer g None = has_no_layout (expanded_in tables g) ≡ true
  IsBytesAnswer g (Some known) = IsKnown known × (known.ground ≡ bytes_of tables g)
