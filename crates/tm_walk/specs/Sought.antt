-- What a walk through a source and a target seeks: source words on which a quantifier stops.
use Rattle.std.specs.Prelude.{◌≡◌, ◌≢◌, ℕ, ◌<◌, ◌≤◌, ◌⊎◌, ◌==◌, ◌↔◌, Bool, false, IsTrue, take}
use Rattle.tm_base.specs.Cells.{Word, fit}
use Rattle.tm_base.specs.Orders.{word_less}
use Rattle.tm_base.specs.Transmutes.{holds, is_itself}
use Rattle.tm_auto.specs.Automata.{Automaton, AutoWord, IsViable}

-- a word of the source, whose references are its own
abbrev pub IsSourceWord : Automaton → Word → Type 0
IsSourceWord src w = AutoWord (holds is_itself) src w

-- What the target's bytes hold where the word was written is viable up to the place: its cells before
-- the place begin a word of the target. A says which source reference may be taken as which target
-- reference.
abbrev pub IsViableTo : (ℕ → ℕ → Bool) → Automaton → Word → ℕ → Type 0
IsViableTo A dst w place = IsViable (holds A) dst (take place (fit w dst.size))

module _ (A : ℕ → ℕ → Bool) (src dst : Automaton) (stop : Bool → Bool → Bool) (skip : Bool → Bool) where
  -- the quantifier stops on the word at the place: it is asked whether the word is viable to there, and
  -- whether the target ends there
  pub record StopsAt (w : Word) (place : ℕ) : Type 0 where
    pub live : Bool
    pub tells : IsTrue live ↔ IsViableTo A dst w place
    pub stops : IsTrue (stop live (place == dst.size))

  -- it skips the word at the place
  pub record SkipsAt (w : Word) (place : ℕ) : Type 0 where
    pub live : Bool
    pub tells : IsTrue live ↔ IsViableTo A dst w place
    pub skips : IsTrue (skip live)

  -- a source word on which the quantifier stops at the place, and neither stops nor skips before it
  pub record IsSought (w : Word) (place : ℕ) : Type 0 where
    pub word : IsSourceWord src w
    pub within : place ≤ dst.size
    pub stops : StopsAt w place
    pub goes_on : (earlier : ℕ) → earlier < place → (¬ StopsAt w earlier) × (¬ SkipsAt w earlier)

  -- none is sought at an earlier place, and no lesser one at this place
  pub record IsLeastSought (w : Word) (place : ℕ) : Type 0 where
    pub sought : IsSought w place
    pub earliest : (v : Word) (other : ℕ) → IsSought v other → place ≤ other
    pub least : (v : Word) → IsSought v place → word_less v w ≡ false

  abbrev pub NoneIsSought : Type 0
  NoneIsSought = (w : Word) (place : ℕ) → ¬ IsSought w place

-- how many cells are viable, of those before the place; 0 where not even the empty list is
pub record IsViableLength (A : ℕ → ℕ → Bool) (dst : Automaton) (w : Word) (place offset : ℕ) : Type 0 where
  pub within : offset ≤ place
  pub viable : offset ≢ 0 → IsViableTo A dst w offset
  pub longest : (longer : ℕ) → longer ≤ place → IsViableTo A dst w longer → longer ≤ offset

-- what a walk finds: the least word that is sought, and how many of its cells are viable where it is
pub record IsFound (A : ℕ → ℕ → Bool) (src dst : Automaton) (stop : Bool → Bool → Bool) (skip : Bool → Bool) (w : Word) (offset : ℕ) : Type 0 where
  pub place : ℕ
  pub least : IsLeastSought A src dst stop skip w place
  pub viable : IsViableLength A dst w place offset

-- the quantifier goes on behind no list that isn't viable
abbrev pub HaltsWhereDead : (Bool → Bool → Bool) → (Bool → Bool) → Type 0
HaltsWhereDead stop skip = (at_end : Bool) → IsTrue (stop false at_end) ⊎ IsTrue (skip false)
