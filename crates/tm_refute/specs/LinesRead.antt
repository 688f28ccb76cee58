-- Lines of a refutation's text, as they are read.
use Rattle.std.specs.Prelude.{◌≡◌, ℕ, ◌+◌, ◌<◌, ◌≤◌, ◌^◌, length, drop, List, [], ◌++◌, codes, Result, Ok, Err}
use Rattle.std.specs.Fmt.{decimal}
use Rattle.tm_refute.specs.TextForms.{IsBadLine, IsEntryText, IsPieceText, IsRefutationText, Leads, begun, most_cells_together, most_entries, nothing, proof_cells}
use Rattle.tm_refute.specs.declared.refutation.Entry.{Entry}
use Rattle.tm_refute.specs.declared.refutation.Refutation.{Refutation}
use Rattle.tm_refute.specs.declared.refutation.Piece.{Piece}
use Rattle.tm_refute.specs.declared.stop.TextErr.{TextErr}
use Rattle.tm_refute.specs.declared.stop.TextErr.TheVariants.{At, Memory}

-- the line names the question
abbrev pub IsQuestion : ℕ → List ℕ → Type 0
IsQuestion number line = (number < 2 ^ 32) × (line ≡ codes "refutation of question " ++ decimal number)

-- the line is the top
abbrev pub IsTop : ℕ → List ℕ → Piece → Type 0
IsTop pointer line top = (text : List ℕ) × (line ≡ codes "word at " ++ text) × IsPieceText pointer text top

-- what was read, or the line that is bad
abbrev pub Tells : {V : Type 0} → ℕ → List ℕ → (V → Type 0) → Result V TextErr → Type 0
Tells {V} pointer bytes form (Ok v) = form v
Tells {V} pointer bytes form (Err (At line)) = IsBadLine pointer bytes line
Tells {V} pointer bytes form (Err Memory) = Unit {0}

-- two lines were read, and this stands behind them
abbrev pub IsHeader : ℕ → List ℕ → List ℕ → ℕ × Piece → Type 0
IsHeader pointer bytes rest header = Leads pointer 2 nothing bytes (begun header.0 (record { top = header.1; entries = [] })) rest

-- the line is an entry, and there are neither too many entries nor too many cells with it
abbrev pub IsFitting : ℕ → List ℕ → ℕ → ℕ → Entry → Type 0
IsFitting pointer line entries cells entry =
    IsEntryText pointer line entry × (entries + 1 ≤ most_entries) × (cells + proof_cells entry.proof ≤ most_cells_together)

-- the number, the refutation and where its text ends
abbrev pub IsText : ℕ → List ℕ → (ℕ × Refutation × ℕ) → Type 0
IsText pointer bytes text = (text.2 ≤ length bytes) × IsRefutationText pointer bytes text.0 text.1 (drop text.2 bytes)

-- an error of the line is told of the bad one
abbrev pub IsFaultOf : ℕ → List ℕ → TextErr → Type 0
IsFaultOf pointer bytes (At line) = IsBadLine pointer bytes line
IsFaultOf pointer bytes Memory = Unit {0}

-- the text was read as this, unless memory ran out
abbrev pub IsRead : List ℕ → ℕ → Refutation → List ℕ → Result (ℕ × Refutation × ℕ) TextErr → Type 0
IsRead bytes number x rest (Ok text) = (text.0 ≡ number) × (text.1 ≡ x) × (drop text.2 bytes ≡ rest)
IsRead bytes number x rest (Err (At line)) = ⊥
IsRead bytes number x rest (Err Memory) = Unit {0}

-- this line was told as the bad one, unless memory ran out
abbrev pub IsTold : ℕ → Result (ℕ × Refutation × ℕ) TextErr → Type 0
IsTold line (Ok text) = ⊥
IsTold line (Err (At other)) = other ≡ line
IsTold line (Err Memory) = Unit {0}
