-- What each question has to assume, and how it is told: the mode `--needs`. The flags are those of the
-- documentation of `core::mem::Assume`, the words are this project's.
use Rattle.std.specs.Prelude.{◌≡◌, ℕ, ◌+◌, Bool, true, false, IsTrue, List, [], ◌∷◌, ◌++◌, codes}
use Rattle.std.specs.Fmt.{decimal}
use Rattle.std.specs.List.{AllZip, flat_map, list_all}
use Rattle.tm_base.specs.declared.ask.Ask.{Ask}
use Rattle.tm_base.specs.declared.assume.Assume.{Assume}
use Rattle.tm_base.specs.declared.world.World.{World}
use Rattle.tm_base.specs.Answers.{AreJudged, IsAnswer}
use Rattle.tm_base.specs.Tables.{Tables}
use Rattle.tm_base.specs.Worlds.{tables_of}
use Rattle.tm_laws.specs.AnswerKinds.{is_refusal}
use Rattle.tm_needs.specs.Least.{AreLeast, HoldsUnder}
use Rattle.tm_report.specs.AnswerLines.{answer_line}
use Rattle.tm_report.specs.FaultLines.{line_end}
use Rattle.tm_run.specs.Report.{status_when}
use Rattle.tm_run.specs.declared.reported.need.Need.{Need}
use Rattle.tm_run.specs.declared.reported.need.Need.TheVariants.{Least, Refused}
use Rattle.tm_run.specs.declared.status.Status.{Status}

-- the answer to the question is yes under some assumptions, whichever it makes itself
abbrev pub HoldsUnderSome : Tables → Ask → Type 0
HoldsUnderSome tables ask = (a : Assume) × HoldsUnder tables ask.src ask.dst a

-- What a question needs, whatever it assumes itself. Where both its types are judged that is the least sets of
-- assumptions under which its answer is yes, and there may be none; else it is refused, under all alike.
abbrev pub IsNeed : Tables → Ask → Need → Type 0
IsNeed tables ask (Least sets) = AreJudged tables ask × AreLeast tables ask.src ask.dst sets
IsNeed tables ask (Refused answer) = IsTrue (is_refusal answer) × IsAnswer tables ask answer

-- what is told as a refusal is one
abbrev pub HasRefusal : Need → Type 0
HasRefusal (Least sets) = Unit {0}
HasRefusal (Refused answer) = IsTrue (is_refusal answer)

-- ---- the words

abbrev pub flag_word : Bool → List ℕ → List (List ℕ)
flag_word true word = word ∷ []
flag_word false word = []

-- the words of a set's flags
abbrev pub flag_words : Assume → List (List ℕ)
flag_words a =
    flag_word a.alignment (codes "alignment") ++ flag_word a.lifetimes (codes "lifetimes") ++ flag_word a.safety (codes "safety") ++ flag_word a.validity (codes "validity")

-- as `safety, validity`
abbrev pub words_text : List (List ℕ) → List ℕ
words_text [] = codes "nothing"
words_text (word ∷ words) = word ++ flat_map (λ next. codes ", " ++ next) words

abbrev pub set_text : Assume → List ℕ
set_text set = words_text (flag_words set)

-- as `needs safety or validity`
abbrev pub need_text : List Assume → List ℕ
need_text [] = codes "never"
need_text (set ∷ sets) = codes "needs " ++ set_text set ++ flat_map (λ next. codes " or " ++ set_text next) sets

-- as `1: needs safety or validity` or `2: never`
abbrev pub least_line : ℕ → List Assume → List ℕ
least_line number sets = decimal number ++ codes ": " ++ need_text sets ++ line_end

-- that, or the line of a refusal
abbrev pub need_line : Tables → ℕ → Need → List ℕ
need_line tables number (Least sets) = least_line number sets
need_line tables number (Refused answer) = answer_line number tables answer

-- the lines of questions that are numbered one after another
abbrev pub need_lines : Tables → ℕ → List Need → List ℕ
need_lines tables number [] = []
need_lines tables number (need ∷ needs) = need_line tables number need ++ need_lines tables (number + 1) needs

-- ---- the report

-- there are assumptions under which the answer is yes
abbrev pub is_met : Need → Bool
is_met (Least []) = false
is_met (Least (set ∷ sets)) = true
is_met (Refused answer) = false

-- the text has a line for each question of the world, in order, and no other
pub record IsNeedsReport (world : World) (status : Status) (text : List ℕ) : Type 0 where
  pub needs : List Need
  pub each : AllZip (IsNeed (tables_of world)) world.questions needs
  pub status_is : status ≡ status_when (list_all is_met needs)
  pub text_is : text ≡ need_lines (tables_of world) 1 needs
