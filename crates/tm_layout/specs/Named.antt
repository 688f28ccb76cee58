-- Which type at fault is named, of those that a type reaches: one with the least canonical text. This
-- project's.
use Rattle.std.specs.Prelude.{◌≡◌, false, Option, None, Some}
use Rattle.tm_base.specs.declared.answer.Why.{Why}
use Rattle.tm_base.specs.declared.ground.Ground.{Ground}
use Rattle.tm_base.specs.Orders.{text_less}
use Rattle.tm_base.specs.Reaches.{IsAtFault, IsJudged, Reaches}
use Rattle.tm_base.specs.Tables.{Tables}
use Rattle.tm_base.specs.Texts.{text_of}

module _ (tables : Tables) (g : Ground) where
  -- a type at fault that is reached, and its cause; none that is reached has a lesser text
  pub record IsFirstRefused (why : Why) (found : Ground) : Type 0 where
    pub reached : Reaches tables g found
    pub at_fault : IsAtFault tables found why
    pub least : (h : Ground) (other : Why) → Reaches tables g h → IsAtFault tables h other → text_less (text_of tables h) (text_of tables found) ≡ false

  abbrev pub IsRefusedAnswer : Option (Why × Ground) → Type 0
  IsRefusedAnswer None = IsJudged tables g
  IsRefusedAnswer (Some found) = IsFirstRefused found.0 found.1
