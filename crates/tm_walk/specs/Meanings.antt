-- What the two quantifiers seek, said without places and stops.
use Rattle.std.specs.Prelude.{◌≡◌, ℕ, ◌+◌, ◌≤◌, ◌&&◌, not, Bool, false}
use Rattle.tm_base.specs.Cells.{Word, fit, OrOwn}
use Rattle.tm_base.specs.Orders.{word_less}
use Rattle.tm_base.specs.Transmutes.{holds}
use Rattle.tm_auto.specs.Automata.{Automaton, AutoWord}
use Rattle.tm_walk.specs.Sought.{IsSourceWord, IsViableTo}

-- for all: stops where not viable, skips nothing
abbrev pub for_all_stops : Bool → Bool → Bool
for_all_stops live at_end = not live

abbrev pub for_all_skips : Bool → Bool
for_all_skips live = false

-- exists: stops at the target's end where viable, skips where not viable
abbrev pub exists_stops : Bool → Bool → Bool
exists_stops live at_end = live && at_end

abbrev pub exists_skips : Bool → Bool
exists_skips live = not live

module _ (A : ℕ → ℕ → Bool) (src dst : Automaton) where
  -- what the target's bytes hold where the word was written is a word of the target
  abbrev pub Fits : Word → Type 0
  Fits w = AutoWord (holds A) dst (fit w dst.size)

  abbrev pub EachWordFits : Type 0
  EachWordFits = (w : Word) → IsSourceWord src w → Fits w

  abbrev pub NoWordFits : Type 0
  NoWordFits = (w : Word) → IsSourceWord src w → ¬ Fits w

  -- the target has a word, where its references may hold themselves
  abbrev pub IsInhabited : Type 0
  IsInhabited = (w : Word) × AutoWord (OrOwn (holds A)) dst w

  -- the target refuses the word's cell at the offset: it is viable before that cell, and not with it
  pub record IsRefusedAt (w : Word) (offset : ℕ) : Type 0 where
    pub viable : IsViableTo A dst w offset
    pub refused : ¬ IsViableTo A dst w (offset + 1)

  -- A source word that the target refuses, and where it has words itself, the offset; no source word is
  -- refused before that offset, and no lesser one at it. Where the target has none, the least of all source
  -- words, and the offset 0.
  pub record IsFirstRefusal (w : Word) (offset : ℕ) : Type 0 where
    pub word : IsSourceWord src w
    pub misfit : ¬ Fits w
    pub refused : IsInhabited → IsRefusedAt w offset
    pub earliest : (v : Word) (other : ℕ) → IsSourceWord src v → IsRefusedAt v other → offset ≤ other
    pub least : (v : Word) → IsSourceWord src v → IsRefusedAt v offset → word_less v w ≡ false
    pub without_words : ¬ IsInhabited → (offset ≡ 0) × ((v : Word) → IsSourceWord src v → word_less v w ≡ false)

  -- the least source word that fits, viable to the target's end
  pub record IsLeastExample (w : Word) (offset : ℕ) : Type 0 where
    pub word : IsSourceWord src w
    pub fits : Fits w
    pub least : (v : Word) → IsSourceWord src v → Fits v → word_less v w ≡ false
    pub whole : offset ≡ dst.size
