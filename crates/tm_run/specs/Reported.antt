-- What an accepted file's world comes to, a status and a text, by what is asked for.
use Rattle.std.specs.Prelude.{◌≡◌, ℕ, Option, Some, None, List}
use Rattle.tm_base.specs.declared.answer.Answer.{Answer}
use Rattle.tm_base.specs.declared.world.World.{World}
use Rattle.tm_base.specs.Worlds.{tables_of}
use Rattle.tm_run.specs.Answers.{AreAnswered}
use Rattle.tm_run.specs.Marks.{IsMatrixReport}
use Rattle.tm_run.specs.Matches.{IsBytesReport}
use Rattle.tm_run.specs.Needs.{IsNeedsReport}
use Rattle.tm_run.specs.Refutations.{IsRefuteReport, IsVerifyReport}
use Rattle.tm_run.specs.Report.{report_for, status_of}
use Rattle.tm_run.specs.declared.words.options.Mode.{Mode}
use Rattle.tm_run.specs.declared.words.options.Mode.TheVariants.{Needs, Matrix, Bytes, Refute, Verify}
use Rattle.tm_run.specs.declared.words.options.Options.{Options}
use Rattle.tm_run.specs.declared.status.Status.{Status}

-- each question of the world has its answer, and the text is the report on these answers, in the form that the
-- options ask for
pub record IsAnswersReport (options : Options) (file : List ℕ) (world : World) (status : Status) (text : List ℕ) : Type 0 where
  pub answers : List Answer
  pub answered : AreAnswered world world.questions answers
  pub status_is : status ≡ status_of answers
  pub text_is : text ≡ report_for options file world answers

-- without a mode that, and with one what it asks for
abbrev pub IsReported : Option Mode → Options → List ℕ → World → Status → List ℕ → Type 0
IsReported None options file world = IsAnswersReport options file world
IsReported (Some Needs) options file world = IsNeedsReport world
IsReported (Some Matrix) options file world = IsMatrixReport world
IsReported (Some (Bytes bytes)) options file world = IsBytesReport bytes world
IsReported (Some (Refute number)) options file world = IsRefuteReport (tables_of world) world.questions number file
IsReported (Some (Verify number x)) options file world = IsVerifyReport (tables_of world) world.questions number x
