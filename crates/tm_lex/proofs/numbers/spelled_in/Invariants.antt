-- What is left spells, behind the value so far, what the whole spells.
use denote.Shadow.{shadow}
use denote.Text.{Utf8}
use Rattle.std.proofs.Common.{◌≡◌, length}
use Rattle.std.specs.Str.{chars}
use Rattle.tm_lex.specs.Characters.{run_of}
use Rattle.tm_lex.specs.Words.{continues_word}
use Rattle.tm_lex.specs.Numbers.{spelled_in}
use Rattle.tm_lex.proofs.NumberLemmas.{spelled_behind}
use Rattle.tm_lex.proofs.numbers.spelled_in.Given as goal

abbrev pub invariant-digits : goal.invariant-digits
invariant-digits l =
    shadow (Utf8 l.rest)
    × (spelled_behind l.base l.value l.some (run_of continues_word (chars l.rest)) ≡ spelled_in l.base (run_of continues_word (chars l.fn.text)))

abbrev pub decreases-digits : goal.decreases-digits
decreases-digits l = length (chars l.rest)
