-- Which of a file's own types may be taken as which, and how it is told: the mode `--matrix`. The words are this
-- project's.
use Rattle.std.specs.Prelude.{◌≡◌, ℕ, ◌+◌, Bool, true, false, List, [], ◌∷◌, ◌++◌, codes, map}
use Rattle.std.specs.Fmt.{decimal}
use Rattle.std.specs.List.{flat_map, list_all}
use Rattle.tm_base.specs.declared.ask.Ask.{Ask}
use Rattle.tm_base.specs.declared.ground.Ground.{Ground}
use Rattle.tm_base.specs.declared.world.World.{World}
use Rattle.tm_base.specs.Tables.{Tables}
use Rattle.tm_base.specs.Texts.{text_of}
use Rattle.tm_base.specs.Worlds.{tables_of}
use Rattle.tm_matrix.specs.Matrix.{IsMatrix, bytes_of, question}
use Rattle.tm_matrix.specs.declared.marks.Line.{Line}
use Rattle.tm_matrix.specs.declared.marks.Mark.{Mark}
use Rattle.tm_matrix.specs.declared.marks.Mark.TheVariants.{Yes, No, Refused}
use Rattle.tm_report.specs.FaultLines.{line_end}
use Rattle.tm_run.specs.Report.{status_when}
use Rattle.tm_run.specs.declared.status.Status.{Status}

-- the types that questions go from, in order
abbrev pub types_of : List Ask → List Ground
types_of asks = map (λ ask. ask.src) asks

-- the questions of one type: from its bytes to it, back, and to each of some types; none has a flag
abbrev pub line_questions : Tables → List Ground → Ground → List Ask
line_questions tables types g = question (bytes_of tables g) g ∷ question g (bytes_of tables g) ∷ map (question g) types

-- those of all types that questions go from
abbrev pub matrix_questions : Tables → List Ask → List Ask
matrix_questions tables asks = flat_map (line_questions tables (types_of asks)) (types_of asks)

-- ---- the words

abbrev pub mark_text : Mark → List ℕ
mark_text Yes = codes "y"
mark_text No = codes "n"
mark_text Refused = codes "-"

-- as `0: Header from y to y yn-`
abbrev pub row_text : ℕ → List ℕ → List ℕ → List ℕ → List ℕ → List ℕ
row_text number name from to cells = decimal number ++ codes ": " ++ name ++ codes " from " ++ from ++ codes " to " ++ to ++ codes " " ++ cells ++ line_end

abbrev pub matrix_line : Tables → ℕ → Ground → Line → List ℕ
matrix_line tables number g line = row_text number (text_of tables g) (mark_text line.from) (mark_text line.to) (flat_map mark_text line.cells)

-- the lines of types that are numbered one after another
abbrev pub matrix_lines : Tables → ℕ → List Ground → List Line → List ℕ
matrix_lines tables number [] lines = []
matrix_lines tables number (g ∷ types) [] = []
matrix_lines tables number (g ∷ types) (line ∷ lines) = matrix_line tables number g line ++ matrix_lines tables (number + 1) types lines

-- ---- the report

abbrev pub is_mark_yes : Mark → Bool
is_mark_yes Yes = true
is_mark_yes No = false
is_mark_yes Refused = false

abbrev pub line_marks : Line → List Mark
line_marks line = line.from ∷ line.to ∷ line.cells

-- each mark of the line is a yes
abbrev pub is_line_yes : Line → Bool
is_line_yes line = list_all is_mark_yes (line_marks line)

-- the text has a line for each type that a question goes from, in order, and no other
pub record IsMatrixReport (world : World) (status : Status) (text : List ℕ) : Type 0 where
  pub lines : List Line
  pub marked : IsMatrix (tables_of world) (types_of world.questions) lines
  pub status_is : status ≡ status_when (list_all is_line_yes lines)
  pub text_is : text ≡ matrix_lines (tables_of world) 0 (types_of world.questions) lines
