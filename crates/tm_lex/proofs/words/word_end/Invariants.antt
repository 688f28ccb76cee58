-- A run at what is left goes on to a run at the whole.
use denote.Shadow.{shadow}
use denote.Text.{Utf8}
use Rattle.std.proofs.Common.{ℕ, List, length}
use Rattle.std.specs.Str.{chars}
use Rattle.tm_lex.specs.Characters.{IsRun}
use Rattle.tm_lex.specs.Words.{continues_word}
use Rattle.tm_lex.specs.Pieces.{Fronts}
use Rattle.tm_lex.proofs.words.word_end.Given as goal

abbrev pub invariant-run : goal.invariant-run
invariant-run l =
    shadow (Utf8 l.rest)
    × ((after : List ℕ) → Fronts (IsRun continues_word) (chars l.rest) after → Fronts (IsRun continues_word) (chars l.fn.text) after)

abbrev pub decreases-run : goal.decreases-run
decreases-run l = length (chars l.rest)
