-- The questions of a run: the file's own, or those that a mode puts in their place.
use Rattle.std.specs.Prelude.{ℕ, zero, suc, ◌+◌, ◌==◌, ◌||◌, nat_lt, Bool, false, Option, Some, None, List, [], ◌∷◌, ◌++◌, slice_get}
use Rattle.tm_base.specs.declared.ask.Ask.{Ask}
use Rattle.tm_base.specs.declared.limit.LimitKind.TheVariants.{MatrixTypes}
use Rattle.tm_base.specs.Limits.{limit_number}
use Rattle.tm_matrix.specs.Matrix.{nothing}
use Rattle.tm_names.specs.declared.resolved.Open.{Open, Named}
use Rattle.tm_names.specs.declared.resolved.OpenAsk.{OpenAsk}
use Rattle.tm_names.specs.declared.resolved.Resolved.{Resolved}
use Rattle.tm_parse.specs.declared.parsed.Decl.{Decl}
use Rattle.tm_parse.specs.declared.parsed.Parsed.{Parsed}
use Rattle.tm_run.specs.declared.words.options.Mode.{Mode}
use Rattle.tm_run.specs.declared.words.options.Mode.TheVariants.{Needs, Matrix, Bytes, Refute, Verify}

-- the type of a definition without parameters, by its number
abbrev pub own_type : ℕ → Open
own_type k = Named (record { 0 = k }) [] []

-- the question from such a type to itself
abbrev pub own_question : ℕ → OpenAsk
own_question k = record { src = own_type k; dst = own_type k; assume = nothing }

-- that of a definition with these lifetime and type parameters; none where there are some
abbrev pub own_if_plain : ℕ → List ℕ → List ℕ → List OpenAsk
own_if_plain k [] [] = own_question k ∷ []
own_if_plain k [] (type ∷ types) = []
own_if_plain k (param ∷ params) types = []

-- those of definitions that are numbered one after another
abbrev pub own_questions : ℕ → List Decl → List OpenAsk
own_questions k [] = []
own_questions k (decl ∷ decls) = own_if_plain k decl.params decl.type_params ++ own_questions (k + 1) decls

-- with `--matrix` the file's questions are put aside
abbrev pub with_questions : Option Mode → Parsed → Resolved → Resolved
with_questions None parsed resolved = resolved
with_questions (Some Needs) parsed resolved = resolved
with_questions (Some (Bytes bytes)) parsed resolved = resolved
with_questions (Some (Refute number)) parsed resolved = resolved
with_questions (Some (Verify number x)) parsed resolved = resolved
with_questions (Some Matrix) parsed resolved = record resolved { asks = own_questions 0 parsed.decls }

-- so many questions are more than the mode takes: a matrix has no more types than its limit
abbrev pub passes_mode : Option Mode → ℕ → Bool
passes_mode None questions = false
passes_mode (Some Needs) questions = false
passes_mode (Some (Bytes bytes)) questions = false
passes_mode (Some (Refute number)) questions = false
passes_mode (Some (Verify number x)) questions = false
passes_mode (Some Matrix) questions = nat_lt (limit_number MatrixTypes) questions

-- the number of the one question that a mode asks of, if it asks of one
abbrev pub number_asked : Option Mode → Option ℕ
number_asked None = None
number_asked (Some Needs) = None
number_asked (Some Matrix) = None
number_asked (Some (Bytes bytes)) = None
number_asked (Some (Refute number)) = Some number
number_asked (Some (Verify number x)) = Some number

-- the question of a number, from 1
abbrev pub question_at : List Ask → ℕ → Option Ask
question_at asks zero = None
question_at asks (suc k) = slice_get asks k

-- it is the number of none of so many questions
abbrev pub is_no_question : ℕ → ℕ → Bool
is_no_question number questions = (number == 0) || nat_lt questions number

-- the mode asks of a question that isn't one of so many
abbrev pub lacks_question : Option ℕ → ℕ → Bool
lacks_question None questions = false
lacks_question (Some number) questions = is_no_question number questions
