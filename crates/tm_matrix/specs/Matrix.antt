-- Which types of a world may be taken as which, type by type: this project's, and `HoldsOf` says what a yes is.
use Rattle.std.specs.Prelude.{ℕ, false, List}
use Rattle.std.specs.List.{AllZip}
use Rattle.tm_base.specs.declared.ask.Ask.{Ask}
use Rattle.tm_base.specs.declared.assume.Assume.{Assume}
use Rattle.tm_base.specs.declared.ground.Ground.{Ground, Array, Prim}
use Rattle.tm_base.specs.declared.ground.Primitive.TheVariants.{U8}
use Rattle.tm_base.specs.Answers.{AreJudged, Casts}
use Rattle.tm_base.specs.Layout.{size_of}
use Rattle.tm_base.specs.Tables.{Tables, expanded_in}
use Rattle.tm_matrix.specs.declared.marks.Line.{Line}
use Rattle.tm_matrix.specs.declared.marks.Mark.{Mark}
use Rattle.tm_matrix.specs.declared.marks.Mark.TheVariants.{Yes, No, Refused}

-- no flags
abbrev pub nothing : Assume
nothing = record { alignment = false; lifetimes = false; safety = false; validity = false }

-- the question from one type to another, without flags
abbrev pub question : Ground → Ground → Ask
question src dst = record { src = src; dst = dst; assume = nothing }

-- an array of so many bytes
abbrev pub bytes : ℕ → Ground
bytes n = Array (Prim U8) n

module _ (tables : Tables) where
  -- the array of as many bytes as a type has
  abbrev pub bytes_of : Ground → Ground
  bytes_of g = bytes (size_of (expanded_in tables g))

  -- Refused where a type of the question isn't judged; else Yes where the source's values may be taken as the
  -- target's, and No where they may not.
  abbrev pub IsMark : Ask → Mark → Type 0
  IsMark ask Yes = AreJudged tables ask × Casts tables ask
  IsMark ask No = AreJudged tables ask × ¬ Casts tables ask
  IsMark ask Refused = ¬ AreJudged tables ask

  -- the marks of the questions from a type's bytes to the type, and back; both are Refused where the type
  -- isn't judged
  abbrev pub AreEnds : Ground → Mark × Mark → Type 0
  AreEnds g marks = IsMark (question (bytes_of g) g) marks.0 × IsMark (question g (bytes_of g)) marks.1

  -- for each type, in order, the mark of the question from one type to it
  abbrev pub AreCells : List Ground → Ground → List Mark → Type 0
  AreCells types g marks = AllZip (λ h mark. IsMark (question g h) mark) types marks

  -- the line of a type
  pub record IsLine (types : List Ground) (g : Ground) (line : Line) : Type 0 where
    pub from : IsMark (question (bytes_of g) g) line.from
    pub to : IsMark (question g (bytes_of g)) line.to
    pub cells : AreCells types g line.cells

  -- a line for each type, in order
  pub record IsMatrix (types : List Ground) (lines : List Line) : Type 0 where
    pub each : AllZip (IsLine types) types lines
