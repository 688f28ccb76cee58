-- The pointees of a world's references as automata: what values are there, and what values may be made.
use Rattle.std.specs.Prelude.{◌≡◌, ℕ, ◌⊎◌, ◌↔◌, Bool, true, false, Option, None, Some, List, slice_get}
use Rattle.tm_base.specs.declared.assume.Assume.{Assume}
use Rattle.tm_base.specs.declared.definition.RefRow.{RefRow}
use Rattle.tm_base.specs.declared.ground.Ground.{Ground}
use Rattle.tm_base.specs.Cells.{Word, fit}
use Rattle.tm_base.specs.Layout.{size_of}
use Rattle.tm_base.specs.Profiles.{pointer_size}
use Rattle.tm_base.specs.Reaches.{IsJudged}
use Rattle.tm_base.specs.Tables.{Tables, expanded_in, pointee_in}
use Rattle.tm_base.specs.Transmutes.{Transmutes, holds, is_itself}
use Rattle.tm_base.specs.Valid.{Valid}
use Rattle.tm_auto.specs.Automata.{AutoWord, Automaton}
use Rattle.tm_walk.specs.Meanings.{EachWordFits}
use Rattle.tm_refs.specs.declared.pointees.Pointee.{Pointee}

-- the automaton of a type's values, where private types keep theirs or have none
pub record IsAutomatonOf (tables : Tables) (keep : Bool) (g : Ground) (auto : Automaton) : Type 0 where
  pub size : auto.size ≡ size_of (expanded_in tables g)
  pub pointer : auto.pointer ≡ pointer_size tables.profile
  pub words : (A : ℕ → ℕ → Bool) (w : Word) → AutoWord (holds A) auto w ↔ Valid (holds A) keep (expanded_in tables g) w

-- the pointee of a place, where it is judged
abbrev pub pointee_at_place : Option (Option Pointee) → Option Pointee
pointee_at_place None = None
pointee_at_place (Some pointee) = pointee

abbrev pub pointee_at : List (Option Pointee) → ℕ → Option Pointee
pointee_at pointees r = pointee_at_place (slice_get pointees r)

module _ (tables : Tables) (assume : Assume) where
  -- both automata of a judged type
  pub record IsPointeeOf (g : Ground) (pointee : Pointee) : Type 0 where
    pub judged : IsJudged tables g
    pub source : IsAutomatonOf tables true g pointee.source
    pub target : IsAutomatonOf tables assume.safety g pointee.target

  -- nothing where the type isn't judged
  abbrev pub IsPointeeAnswer : Ground → Option Pointee → Type 0
  IsPointeeAnswer g None = ¬ IsJudged tables g
  IsPointeeAnswer g (Some pointee) = IsPointeeOf g pointee

  -- those of all references of a world
  pub record ArePointees (pointees : List (Option Pointee)) : Type 0 where
    pub each : (r : ℕ) (row : RefRow) → slice_get tables.refs r ≡ Some row → IsPointeeAnswer row.pointee (pointee_at pointees r)

  -- The values of the pointees go together, where A says which references do: forward, and where the target is
  -- `&mut` also back.
  pub record GoTogether (A : ℕ → ℕ → Type 0) (r t : RefRow) : Type 0 where
    pub forward : Transmutes A assume (pointee_in tables r) (pointee_in tables t)
    pub backward : t.mutable ≡ true → Transmutes A assume (pointee_in tables t) (pointee_in tables r)

-- a source word
abbrev pub IsWordOf : Automaton → Word → Type 0
IsWordOf source w = AutoWord (holds is_itself) source w

abbrev pub HasNoWord : Automaton → Type 0
HasNoWord source = (w : Word) → ¬ IsWordOf source w

-- some word of the source, fitted, is one of the target
abbrev pub SomeWordFits : (ℕ → ℕ → Bool) → Automaton → Automaton → Type 0
SomeWordFits A source target = (w : Word) × IsWordOf source w × AutoWord (holds A) target (fit w target.size)

-- The source has no word; or each of its words, fitted, is one of the target; or, where validity is assumed, some is.
abbrev pub AutoCasts : (ℕ → ℕ → Bool) → Bool → Automaton → Automaton → Type 0
AutoCasts A validity source target =
    HasNoWord source
    ⊎ ((validity ≡ false) × EachWordFits A source target)
    ⊎ ((validity ≡ true) × SomeWordFits A source target)
