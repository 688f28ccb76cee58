-- What is to hold of a file's questions, so that a run ends with the status of all: what is asked for decides it.
use Rattle.std.specs.Prelude.{ℕ, Option, Some, None, List, option_to_list}
use Rattle.std.specs.List.{All, Any}
use Rattle.tm_base.specs.declared.ask.Ask.{Ask}
use Rattle.tm_base.specs.declared.world.World.{World}
use Rattle.tm_base.specs.Asked.{HoldsOf}
use Rattle.tm_base.specs.Tables.{Tables}
use Rattle.tm_base.specs.Worlds.{tables_of}
use Rattle.tm_refute.specs.Refutes.{Refutes}
use Rattle.tm_run.specs.Asking.{question_at}
use Rattle.tm_run.specs.Files.{IsWorldOf}
use Rattle.tm_run.specs.Marks.{matrix_questions}
use Rattle.tm_run.specs.Matches.{AreValueOf}
use Rattle.tm_run.specs.Needs.{HoldsUnderSome}
use Rattle.tm_run.specs.declared.words.options.Mode.{Mode}
use Rattle.tm_run.specs.declared.words.options.Mode.TheVariants.{Needs, Matrix, Bytes, Refute, Verify}
use Rattle.tm_run.specs.declared.words.options.Options.{Options}

-- Without a mode, that a question is to be answered yes; with `--needs`, that it is under some assumptions; with
-- `--bytes`, that the bytes are a value of its target; with `--verify`, that it has the refutation.
abbrev pub HoldsFor : Option Mode → Tables → Ask → Type 0
HoldsFor None = HoldsOf
HoldsFor (Some Needs) = HoldsUnderSome
HoldsFor (Some Matrix) = HoldsOf
HoldsFor (Some (Bytes bytes)) = AreValueOf bytes
HoldsFor (Some (Refute number)) = HoldsOf
HoldsFor (Some (Verify number x)) = λ tables ask. Refutes tables ask x

-- the questions of which it is to hold: those that are asked, of a matrix that of each mark, and where the mode asks of one
-- question that one
abbrev pub questions_for : Option Mode → Tables → List Ask → List Ask
questions_for None tables asks = asks
questions_for (Some Needs) tables asks = asks
questions_for (Some (Bytes bytes)) tables asks = asks
questions_for (Some (Refute number)) tables asks = option_to_list (question_at asks number)
questions_for (Some (Verify number x)) tables asks = option_to_list (question_at asks number)
questions_for (Some Matrix) tables asks = matrix_questions tables asks

-- the file is accepted, and that holds of each of these questions
pub record EachHolds (options : Options) (file : List ℕ) : Type 0 where
  pub world : World
  pub of_file : IsWorldOf options file world
  pub each : All (HoldsFor options.mode (tables_of world)) (questions_for options.mode (tables_of world) world.questions)

-- the file is accepted, and of some question it doesn't hold
pub record SomeDoesNot (options : Options) (file : List ℕ) : Type 0 where
  pub world : World
  pub of_file : IsWorldOf options file world
  pub some : Any (λ ask. ¬ HoldsFor options.mode (tables_of world) ask) (questions_for options.mode (tables_of world) world.questions)
