-- The text of a report: a line for each reference type, one for each question, and a summary.
use Rattle.std.specs.Prelude.{ℕ, ◌+◌, if◌then◌else◌, Bool, true, false, Option, None, Some, List, [], ◌∷◌, ◌++◌, codes, count_by, length}
use Rattle.std.specs.Fmt.{decimal}
use Rattle.std.specs.List.{list_all}
use Rattle.tm_base.specs.declared.answer.Answer.{Answer}
use Rattle.tm_base.specs.declared.definition.RefRow.{RefRow}
use Rattle.tm_base.specs.declared.world.World.{World}
use Rattle.tm_base.specs.Tables.{Tables}
use Rattle.tm_base.specs.Worlds.{tables_of}
use Rattle.tm_laws.specs.AnswerKinds.{is_no, is_refusal, is_yes}
use Rattle.tm_report.specs.AnswerLines.{answer_line, reference_line, summary_line}
use Rattle.tm_report.specs.FaultLines.{line_end}
use Rattle.tm_run.specs.declared.words.options.Options.{Options}
use Rattle.tm_run.specs.declared.status.Status.{Status}
use Rattle.tm_run.specs.declared.status.Status.TheVariants.{AllYes, Mixed}

-- the lines of reference types that are numbered one after another, each of which says what its number stands for
abbrev pub reference_lines : Tables → ℕ → List RefRow → List ℕ
reference_lines tables number [] = []
reference_lines tables number (row ∷ rows) = reference_line tables (record { 0 = number }) ++ reference_lines tables (number + 1) rows

-- the lines of answers to questions that are numbered one after another
abbrev pub answer_lines : Tables → ℕ → List Answer → List ℕ
answer_lines tables number [] = []
answer_lines tables number (answer ∷ answers) = answer_line number tables answer ++ answer_lines tables (number + 1) answers

-- how many of some answers are yes, no and refusals
abbrev pub summary_of : List Answer → List ℕ
summary_of answers = summary_line (count_by is_yes answers) (count_by is_no answers) (count_by is_refusal answers)

-- the whole report: reference types are numbered from 0, and questions from 1
abbrev pub report_of : Tables → List Answer → List ℕ
report_of tables answers = reference_lines tables 0 tables.refs ++ answer_lines tables 1 answers ++ summary_of answers

-- as `generated 7: 6183 bytes, 64 questions`
abbrev pub generated_line : ℕ → ℕ → ℕ → List ℕ
generated_line number bytes questions = codes "generated " ++ decimal number ++ codes ": " ++ decimal bytes ++ codes " bytes, " ++ decimal questions ++ codes " questions" ++ line_end

-- the report in the form that is asked for. Of a generated file that is the line that says which it is, and the
-- summary; of a file that was read the summary alone, or the whole report.
abbrev pub report_by : Option ℕ → Bool → List ℕ → World → List Answer → List ℕ
report_by (Some number) summary file world answers = generated_line number (length file) (length world.questions) ++ summary_of answers
report_by None true file world answers = summary_of answers
report_by None false file world answers = report_of (tables_of world) answers

abbrev pub report_for : Options → List ℕ → World → List Answer → List ℕ
report_for options = report_by options.generate options.summary

-- the status of a run by whether all of it is as wished
abbrev pub status_when : Bool → Status
status_when all = if all then AllYes else Mixed

-- each answer is yes, or not
abbrev pub status_of : List Answer → Status
status_of answers = status_when (list_all is_yes answers)
