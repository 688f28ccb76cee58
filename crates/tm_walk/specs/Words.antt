-- What is made of the cells that a walk leads to.
use Rattle.std.specs.Prelude.{◌≡◌, ℕ, suc, Bool, false, if◌then◌else◌, List, [], ◌∷◌, ◌++◌, length}
use Rattle.tm_base.specs.declared.cell.Cell.{Cell}
use Rattle.tm_base.specs.Cells.{Word, fit}
use Rattle.tm_base.specs.Orders.{word_less}
use Rattle.tm_auto.specs.Automata.{Automaton}
use Rattle.tm_auto.specs.Least.{IsLeastCell}
use Rattle.tm_auto.specs.Sets.{next, symbol_of}
use Rattle.tm_walk.specs.Layers.{is_live}
use Rattle.tm_walk.specs.Sought.{IsSourceWord}

-- as many bytes hold these cells where some source word was written
abbrev pub IsFront : Automaton → Word → Type 0
IsFront src cells = (w : Word) × IsSourceWord src w × (fit w (length cells) ≡ cells)

-- the least such word
pub record IsLeastWord (src : Automaton) (cells w : Word) : Type 0 where
  pub word : IsSourceWord src w
  pub begins : fit w (length cells) ≡ cells
  pub least : (v : Word) → IsSourceWord src v → fit v (length cells) ≡ cells → word_less v w ≡ false

-- one cell more: the least that an edge from the states takes
pub record IsWithLeast (src : Automaton) (from : List ℕ) (before after : Word) : Type 0 where
  pub cell : Cell
  pub least : IsLeastCell src from cell
  pub longer : after ≡ before ++ cell ∷ []

-- how many of the cells lead from the states to some state
abbrev pub live_length : (ℕ → ℕ → Bool) → Automaton → List ℕ → Word → ℕ
live_length A auto from [] = 0
live_length A auto from (c ∷ cells) =
    if is_live (next A auto.edges from (symbol_of c))
    then suc (live_length A auto (next A auto.edges from (symbol_of c)) cells)
    else 0
