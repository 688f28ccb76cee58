-- The least sets of assumptions that a cast between two types needs: the flags are those of the
-- documentation of `core::mem::Assume`, what is least is this project's.
use Rattle.std.specs.Prelude.{◌≡◌, ◌<◌, ◌↔◌, Bool, true, false, List, AllPairs, Contains}
use Rattle.tm_base.specs.declared.ask.Ask.{Ask}
use Rattle.tm_base.specs.declared.assume.Assume.{Assume}
use Rattle.tm_base.specs.declared.ground.Ground.{Ground}
use Rattle.tm_base.specs.Asked.{HoldsOf}
use Rattle.tm_base.specs.Assumptions.{Includes}
use Rattle.tm_base.specs.Tables.{Tables}
use Rattle.tm_needs.specs.Numbers.{number_of}

-- the set has each flag of one of some sets
abbrev pub IncludesSome : Assume → List Assume → Type 0
IncludesSome a sets = (b : Assume) × Contains sets b × Includes a b

-- the answer is yes, and the set that is assumed includes none of some sets
abbrev pub IsNew : Tables → Ask → List Assume → Bool → Type 0
IsNew tables ask sets true = HoldsOf tables ask × ¬ IncludesSome ask.assume sets
IsNew tables ask sets false = HoldsOf tables ask → IncludesSome ask.assume sets

module _ (tables : Tables) (src dst : Ground) where
  -- the answer is yes where so much is assumed
  abbrev pub HoldsUnder : Assume → Type 0
  HoldsUnder a = HoldsOf tables (record { src = src; dst = dst; assume = a })

  -- the answer is yes under the set, and under no proper subset of it
  pub record IsLeast (a : Assume) : Type 0 where
    pub holds : HoldsUnder a
    pub minimal : (b : Assume) → Includes a b → HoldsUnder b → b ≡ a

  -- the least sets, each of them and no other, by rising number
  pub record AreLeast (sets : List Assume) : Type 0 where
    pub exact : (a : Assume) → Contains sets a ↔ IsLeast a
    pub rising : AllPairs (λ a b. number_of a < number_of b) sets

-- between two types there is one such list
abbrev pub LeastAreUnique : Type 0
LeastAreUnique = (tables : Tables) (src dst : Ground) (sets others : List Assume) → AreLeast tables src dst sets → AreLeast tables src dst others → sets ≡ others
