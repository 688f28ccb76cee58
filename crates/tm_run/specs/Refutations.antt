-- What shows that the answer to a question is no, as `--refute` writes it and `--verify` checks it.
use Rattle.std.specs.Prelude.{◌≡◌, ◌⊎◌, ◌↔◌, ℕ, ◌<◌, ◌≤◌, Bool, true, false, Option, Some, None, List, ◌++◌, codes}
use Rattle.std.specs.Fmt.{decimal}
use Rattle.tm_base.specs.declared.answer.Answer.{Answer}
use Rattle.tm_base.specs.declared.ask.Ask.{Ask}
use Rattle.tm_base.specs.declared.world.World.{World}
use Rattle.tm_base.specs.Answers.{IsAnswer}
use Rattle.tm_base.specs.Tables.{Tables}
use Rattle.tm_base.specs.Worlds.{tables_of}
use Rattle.tm_laws.specs.AnswerKinds.{is_yes}
use Rattle.tm_refute.specs.Chosen.{IsRefutable, IsRefutationOf}
use Rattle.tm_refute.specs.Refutes.{Refutes}
use Rattle.tm_refute.specs.TextForms.{cells_of, most_cells_together}
use Rattle.tm_refute.specs.Written.{refutation_text}
use Rattle.tm_refute.specs.declared.refutation.Refutation.{Refutation}
use Rattle.tm_report.specs.AnswerLines.{answer_line}
use Rattle.tm_report.specs.FaultLines.{line_end}
use Rattle.tm_run.specs.Asking.{question_at}
use Rattle.tm_run.specs.Report.{status_when}
use Rattle.tm_run.specs.declared.words.options.Mode.{Mode}
use Rattle.tm_run.specs.declared.words.options.Mode.TheVariants.{Needs, Matrix, Bytes, Refute, Verify}
use Rattle.tm_run.specs.declared.status.Status.{Status}
use Rattle.tm_run.specs.declared.status.Status.TheVariants.{Mixed}

abbrev pub verdict_word : Bool → List ℕ
verdict_word true = codes "accepted "
verdict_word false = codes "rejected "

-- as `accepted 1`
abbrev pub verdict_line : Bool → ℕ → List ℕ
verdict_line holds number = verdict_word holds ++ decimal number ++ line_end

-- of the question of a number, of some asked over the tables
module _ (tables : Tables) (asks : List Ask) (number : ℕ) where
  -- it has a refutation, with too many cells to be written
  pub record IsPast : Type 0 where
    pub ask : Ask
    pub at : question_at asks number ≡ Some ask
    pub refutation : Refutation
    pub is : IsRefutationOf tables ask refutation
    pub many : most_cells_together < cells_of refutation

  -- its refutation, which isn't too long, and behind it the file
  pub record IsShown (file : List ℕ) (status : Status) (text : List ℕ) : Type 0 where
    pub ask : Ask
    pub at : question_at asks number ≡ Some ask
    pub refutation : Refutation
    pub is : IsRefutationOf tables ask refutation
    pub few : cells_of refutation ≤ most_cells_together
    pub status_is : status ≡ Mixed
    pub text_is : text ≡ refutation_text number refutation ++ file

  -- or, where it has none, the line of its answer
  pub record IsAnsweredAlone (status : Status) (text : List ℕ) : Type 0 where
    pub ask : Ask
    pub at : question_at asks number ≡ Some ask
    pub none : ¬ IsRefutable tables ask
    pub answer : Answer
    pub is : IsAnswer tables ask answer
    pub status_is : status ≡ status_when (is_yes answer)
    pub text_is : text ≡ answer_line number tables answer

  abbrev pub IsRefuteReport : List ℕ → Status → List ℕ → Type 0
  IsRefuteReport file status text = IsShown file status text ⊎ IsAnsweredAlone status text

  -- a refutation is accepted exactly where it is one of the question
  pub record IsVerifyReport (x : Refutation) (status : Status) (text : List ℕ) : Type 0 where
    pub ask : Ask
    pub at : question_at asks number ≡ Some ask
    pub holds : Bool
    pub means : holds ≡ true ↔ Refutes tables ask x
    pub status_is : status ≡ status_when holds
    pub text_is : text ≡ verdict_line holds number

-- the refutation that is to be written has too many cells
abbrev pub PassesCells : Option Mode → World → Type 0
PassesCells None world = ⊥
PassesCells (Some Needs) world = ⊥
PassesCells (Some Matrix) world = ⊥
PassesCells (Some (Bytes bytes)) world = ⊥
PassesCells (Some (Refute number)) world = IsPast (tables_of world) world.questions number
PassesCells (Some (Verify number x)) world = ⊥
