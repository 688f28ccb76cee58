-- What bytes are to the targets of questions, and the report on it.
use Rattle.std.specs.Prelude.{◌≡◌, ℕ, ◌+◌, Bool, true, false, List, [], ◌∷◌, ◌++◌, codes}
use Rattle.std.specs.Fmt.{decimal}
use Rattle.std.specs.List.{AllZip, list_all}
use Rattle.tm_base.specs.declared.answer.Answer.TheVariants as answer
use Rattle.tm_base.specs.declared.answer.Side.TheVariants.{Target}
use Rattle.tm_base.specs.declared.ask.Ask.{Ask}
use Rattle.tm_base.specs.declared.world.World.{World}
use Rattle.tm_base.specs.Reaches.{IsJudged}
use Rattle.tm_base.specs.Tables.{Tables, expanded_in}
use Rattle.tm_base.specs.Transmutes.{Fits as AreFitting, holds}
use Rattle.tm_base.specs.Worlds.{tables_of}
use Rattle.tm_layout.specs.Named.{IsFirstRefused}
use Rattle.tm_report.specs.AnswerLines.{answer_line}
use Rattle.tm_report.specs.FaultLines.{line_end}
use Rattle.tm_run.specs.Report.{status_when}
use Rattle.tm_run.specs.declared.matched.Match.{Match}
use Rattle.tm_run.specs.declared.matched.Match.TheVariants.{Fits, Refused}
use Rattle.tm_run.specs.declared.status.Status.{Status}
use Rattle.tm_validate.specs.Against.{AreTo, bytes_of}
use Rattle.tm_validate.specs.declared.matching.Fits.{Fits as Fitting}
use Rattle.tm_validate.specs.declared.matching.Fits.TheVariants.{Valid, NoWord, RefusedAt}

-- the target of the question is judged, and the bytes are one of its values, whichever references it takes
pub record AreValueOf (bytes : List ℕ) (tables : Tables) (ask : Ask) : Type 0 where
  pub judged : IsJudged tables ask.dst
  pub fit : (test : ℕ → ℕ → Bool) → AreFitting (holds test) ask.assume.safety (expanded_in tables ask.dst) (bytes_of bytes)

-- What the bytes are to the question's target, whichever references it takes and whatever the source is. Where the
-- target isn't judged, its refusal.
abbrev pub IsMatch : Tables → List ℕ → Ask → Match → Type 0
IsMatch tables bytes ask (Fits fits) =
    IsJudged tables ask.dst × ((test : ℕ → ℕ → Bool) → AreTo (holds test) ask.assume.safety (expanded_in tables ask.dst) bytes fits)
IsMatch tables bytes ask (Refused why g) = IsFirstRefused tables ask.dst why g

-- ---- the words

-- as `valid`, `no-word` or `invalid at 2`
abbrev pub fits_text : Fitting → List ℕ
fits_text Valid = codes "valid"
fits_text NoWord = codes "no-word"
fits_text (RefusedAt offset) = codes "invalid at " ++ decimal offset

-- as `1: valid`
abbrev pub fits_line : ℕ → Fitting → List ℕ
fits_line number fits = decimal number ++ codes ": " ++ fits_text fits ++ line_end

-- that, or the line of a refused target
abbrev pub match_line : Tables → ℕ → Match → List ℕ
match_line tables number (Fits fits) = fits_line number fits
match_line tables number (Refused why g) = answer_line number tables (answer.Refused Target why g)

-- the lines of questions that are numbered one after another
abbrev pub match_lines : Tables → ℕ → List Match → List ℕ
match_lines tables number [] = []
match_lines tables number (match ∷ matches) = match_line tables number match ++ match_lines tables (number + 1) matches

-- ---- the report

-- the bytes are a value of the target
abbrev pub is_valid : Match → Bool
is_valid (Fits Valid) = true
is_valid (Fits NoWord) = false
is_valid (Fits (RefusedAt offset)) = false
is_valid (Refused why g) = false

-- the text has a line for each question of the world, in order, and no other
pub record IsBytesReport (bytes : List ℕ) (world : World) (status : Status) (text : List ℕ) : Type 0 where
  pub matches : List Match
  pub each : AllZip (IsMatch (tables_of world) bytes) world.questions matches
  pub status_is : status ≡ status_when (list_all is_valid matches)
  pub text_is : text ≡ match_lines (tables_of world) 1 matches
