-- Which of some types at fault is named: one whose canonical text is least. This project's.
use Rattle.std.specs.Prelude.{◌≡◌, Bool, false, Option, None, Some, List, Contains}
use Rattle.tm_base.specs.declared.answer.Why.{Why}
use Rattle.tm_base.specs.declared.ground.Ground.{Ground}
use Rattle.tm_base.specs.declared.ground.Ground.TheOpen.{Ground-F}
use Rattle.tm_base.specs.Faults.{fault_of}
use Rattle.tm_base.specs.Orders.{text_less}
use Rattle.tm_base.specs.Reaches.{IsAtFault}
use Rattle.tm_base.specs.Tables.{Tables, expanded_in}
use Rattle.tm_base.specs.Texts.{text_of}
use Rattle.tm_layout.specs.declared.refused.Refused.{Refused}
use Rattle.tm_layout.specs.Reached.{is_marked}

-- a named type that is marked as seen
abbrev pub is_seen : List Bool → Ground-F Ground → Bool
is_seen seen (Ground-F.Named id) = is_marked seen id.0
is_seen seen _ = false

module _ (tables : Tables) where
  -- a type with its cause and its text
  pub record IsRefused (refused : Refused) : Type 0 where
    pub at_fault : IsAtFault tables refused.found refused.why
    pub text : refused.text ≡ text_of tables refused.found

  -- one of the list at fault such that none of the list has a lesser text
  pub record IsLeast (types : List Ground) (refused : Refused) : Type 0 where
    pub is : IsRefused refused
    pub listed : Contains types refused.found
    pub least : (h : Ground) (why : Why) → Contains types h → IsAtFault tables h why → text_less (text_of tables h) refused.text ≡ false

  -- none of the list is at fault
  abbrev pub AreSound : List Ground → Type 0
  AreSound types = (h : Ground) → Contains types h → fault_of (expanded_in tables h) ≡ None

  -- the least one, where there is one
  abbrev pub IsLeastAnswer : List Ground → Option Refused → Type 0
  IsLeastAnswer types None = AreSound types
  IsLeastAnswer types (Some refused) = IsLeast types refused
