-- What the walk for a value that fits answers.
use Rattle.std.specs.Prelude.{ℕ, Bool, Option, None, Some}
use Rattle.tm_auto.specs.Automata.{Automaton}
use Rattle.tm_walk.specs.declared.walking.Found.{Found}
use Rattle.tm_walk.specs.Meanings.{IsLeastExample, NoWordFits}

-- the least source word that fits; none where none does
abbrev pub IsExampleAnswer : (ℕ → ℕ → Bool) → Automaton → Automaton → Option Found → Type 0
IsExampleAnswer A src dst None = NoWordFits A src dst
IsExampleAnswer A src dst (Some found) = IsLeastExample A src dst found.word found.offset
