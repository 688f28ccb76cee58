-- The text that is written of a refutation, as bytes: its lines in their order, with words as a report writes them. And
-- which refutations can be written, so that they are read back.
use Rattle.std.specs.Prelude.{◌≡◌, ℕ, ◌<◌, ◌≤◌, ◌⊎◌, List, ◌++◌, All, flat_map, length, codes}
use Rattle.std.specs.Fmt.{decimal}
use Rattle.tm_base.specs.Cells.{HasWholeReferences, Word}
use Rattle.tm_refute.specs.TextForms.{IsEntryText, IsPieceText, IsProofText, IsWithin, local_text}
use Rattle.tm_refute.specs.WordForms.{most_cells}
use Rattle.tm_refute.specs.declared.refutation.Entry.{Entry}
use Rattle.tm_refute.specs.declared.refutation.Piece.{Piece}
use Rattle.tm_refute.specs.declared.refutation.Proof.{Proof}
use Rattle.tm_refute.specs.declared.refutation.Proof.TheVariants.{Local, Forward, Reverse}
use Rattle.tm_refute.specs.declared.refutation.Refutation.{Refutation}
use Rattle.tm_report.specs.FaultLines.{line_end}
use Rattle.tm_report.specs.WordTexts.{word_text}

-- as `0: 02`
abbrev pub piece_text : Piece → List ℕ
piece_text piece = decimal piece.offset ++ (codes ": " ++ word_text piece.word)

-- as `: ref-lifetime` and `, forward at 0: 02`
abbrev pub proof_text : Proof → List ℕ
proof_text (Local rule) = codes ": " ++ local_text rule
proof_text (Forward piece) = codes ", forward at " ++ piece_text piece
proof_text (Reverse piece) = codes ", reverse at " ++ piece_text piece

-- as `&3 to &2, depth 1, forward at 0: 02`
abbrev pub entry_text : Entry → List ℕ
entry_text entry =
    codes "&" ++ (decimal entry.source.0 ++ (codes " to &" ++ (decimal entry.target.0 ++ (codes ", depth " ++ (decimal entry.depth ++ proof_text entry.proof)))))

-- a line with its end
abbrev pub ended : List ℕ → List ℕ
ended line = line ++ line_end

-- the question's line, the top's, one for each entry, and `end`
abbrev pub refutation_text : ℕ → Refutation → List ℕ
refutation_text number x =
    ended (codes "refutation of question " ++ decimal number)
    ++ ended (codes "word at " ++ piece_text x.top)
    ++ flat_map (λ entry. ended (entry_text entry)) x.entries
    ++ ended (codes "end")

module _ (pointer : ℕ) where
  -- a word that isn't too long, and whose references are whole, each of so many bytes
  pub record IsWritableWord (w : Word) : Type 0 where
    pub whole : HasWholeReferences pointer w
    pub few : length w ≤ most_cells

  -- a proof names a local rule exactly where its depth is 0; else its word can be written
  abbrev pub IsWritableProof : ℕ → Proof → Type 0
  IsWritableProof depth (Local rule) = depth ≡ 0
  IsWritableProof depth (Forward piece) = (0 < depth) × IsWritableWord piece.word
  IsWritableProof depth (Reverse piece) = (0 < depth) × IsWritableWord piece.word

  abbrev pub IsWritableEntry : Entry → Type 0
  IsWritableEntry entry = IsWritableProof entry.depth entry.proof

  -- A refutation that can be written and read back, where a reference has so many bytes.
  pub record IsWritable (x : Refutation) : Type 0 where
    pub size : (pointer ≡ 4) ⊎ (pointer ≡ 8)
    pub top : IsWritableWord x.top.word
    pub entries : All IsWritableEntry x.entries
    pub within : IsWithin x

-- where a reference has 4 or 8 bytes, a piece that can be written is read back from its text
abbrev pub IsPieceReadBack : Piece → Type 0
IsPieceReadBack piece =
    (pointer : ℕ) → (pointer ≡ 4) ⊎ (pointer ≡ 8) → IsWritableWord pointer piece.word → IsPieceText pointer (piece_text piece) piece

-- and so is a proof, behind its depth
abbrev pub IsProofReadBack : Proof → Type 0
IsProofReadBack proof =
    (pointer depth : ℕ) → (pointer ≡ 4) ⊎ (pointer ≡ 8) → IsWritableProof pointer depth proof → IsProofText pointer depth (proof_text proof) proof

-- and so is an entry
abbrev pub IsEntryReadBack : Entry → Type 0
IsEntryReadBack entry =
    (pointer : ℕ) → (pointer ≡ 4) ⊎ (pointer ≡ 8) → IsWritableEntry pointer entry → IsEntryText pointer (entry_text entry) entry
