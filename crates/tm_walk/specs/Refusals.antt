-- What the walk for all answers.
use Rattle.std.specs.Prelude.{ℕ, Bool, Option, None, Some}
use Rattle.tm_auto.specs.Automata.{Automaton}
use Rattle.tm_walk.specs.declared.walking.Found.{Found}
use Rattle.tm_walk.specs.Meanings.{EachWordFits, IsFirstRefusal}

-- the source word that the target refuses first; none where each fits
abbrev pub IsRefusalAnswer : (ℕ → ℕ → Bool) → Automaton → Automaton → Option Found → Type 0
IsRefusalAnswer A src dst None = EachWordFits A src dst
IsRefusalAnswer A src dst (Some found) = IsFirstRefusal A src dst found.word found.offset
