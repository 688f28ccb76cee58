-- The text of a refutation, as bytes: a line for the question's number, one for the top, one for each entry, and the
-- line `end`; what stands behind that is no part of it. Each line has its place, and the first that isn't in the form
-- of its place is the bad one. The form is this project's.
use Rattle.std.specs.Prelude.{◌≡◌, ℕ, zero, suc, ◌+◌, ◌<◌, ◌≤◌, ◌^◌, ◌⊎◌, List, [], ◌∷◌, ◌++◌, length, codes}
use Rattle.std.specs.Fmt.{decimal}
use Rattle.std.specs.List.{sum_by}
use Rattle.tm_base.specs.declared.answer.LocalRule.{LocalRule}
use Rattle.tm_base.specs.declared.answer.LocalRule.TheVariants.{MoreUnique, TooBig, Alignment, Interior, Lifetime}
use Rattle.tm_refute.specs.declared.refutation.Entry.{Entry}
use Rattle.tm_refute.specs.declared.refutation.Piece.{Piece}
use Rattle.tm_refute.specs.declared.refutation.Proof.{Proof}
use Rattle.tm_refute.specs.declared.refutation.Proof.TheVariants.{Local, Forward, Reverse}
use Rattle.tm_refute.specs.declared.refutation.Refutation.{Refutation}
use Rattle.tm_refute.specs.WordForms.{IsWordText}

-- how many entries there are at most, and how many cells all words have together
abbrev pub most_entries : ℕ
most_entries = 4096

abbrev pub most_cells_together : ℕ
most_cells_together = 16777216

-- the text of a local rule
abbrev pub local_text : LocalRule → List ℕ
local_text MoreUnique = codes "ref-more-unique"
local_text TooBig = codes "ref-too-big"
local_text Alignment = codes "ref-alignment"
local_text Interior = codes "ref-interior"
local_text Lifetime = codes "ref-lifetime"

-- how many cells a proof has
abbrev pub proof_cells : Proof → ℕ
proof_cells (Local rule) = 0
proof_cells (Forward piece) = length piece.word
proof_cells (Reverse piece) = length piece.word

-- how many cells all words have
abbrev pub cells_of : Refutation → ℕ
cells_of x = length x.top.word + sum_by (λ entry. proof_cells entry.proof) x.entries

-- there aren't too many entries, nor too many cells
pub record IsWithin (x : Refutation) : Type 0 where
  pub few_entries : length x.entries ≤ most_entries
  pub few_cells : cells_of x ≤ most_cells_together

-- with one entry more
abbrev pub with_entry : Refutation → Entry → Refutation
with_entry x entry = record { top = x.top; entries = x.entries ++ entry ∷ [] }

-- What the lines so far say, which is what the next line has to be.
pub data Read : Type 0 where
  nothing : Read
  -- the question's number
  question : ℕ → Read
  -- the number, and the refutation with the entries so far
  begun : ℕ → Refutation → Read
  -- the same, up to the end
  whole : ℕ → Refutation → Read

-- what a text says, and where it ends
pub record AreSame (number other : ℕ) (x y : Refutation) (rest behind : List ℕ) : Type 0 where
  pub number_same : number ≡ other
  pub refutation_same : x ≡ y
  pub rest_same : rest ≡ behind

module _ (pointer : ℕ) where
  -- as `0: 02`
  pub record IsPieceText (text : List ℕ) (piece : Piece) : Type 0 where
    pub word_text : List ℕ
    pub offset : piece.offset < 2 ^ 32
    pub text_is : text ≡ decimal piece.offset ++ (codes ": " ++ word_text)
    pub word : IsWordText pointer word_text piece.word

  -- What stands behind the depth: as `: ref-lifetime` where that is 0, and else as `, forward at 0: 02` and
  -- `, reverse at 0: 02`.
  abbrev pub IsProofText : ℕ → List ℕ → Proof → Type 0
  IsProofText depth text (Local rule) = (depth ≡ 0) × (text ≡ codes ": " ++ local_text rule)
  IsProofText depth text (Forward piece) = (0 < depth) × (rest : List ℕ) × (text ≡ codes ", forward at " ++ rest) × IsPieceText rest piece
  IsProofText depth text (Reverse piece) = (0 < depth) × (rest : List ℕ) × (text ≡ codes ", reverse at " ++ rest) × IsPieceText rest piece

  -- as `&3 to &2, depth 1, forward at 0: 02`
  pub record IsEntryText (text : List ℕ) (entry : Entry) : Type 0 where
    pub proof_text : List ℕ
    pub source : entry.source.0 < 2 ^ 32
    pub target : entry.target.0 < 2 ^ 32
    pub depth : entry.depth < 2 ^ 32
    pub text_is :
        text ≡ codes "&" ++ (decimal entry.source.0 ++ (codes " to &" ++ (decimal entry.target.0 ++ (codes ", depth " ++ (decimal entry.depth ++ proof_text)))))
    pub proof : IsProofText entry.depth proof_text entry.proof

  -- A line goes on from what was read, and this is read with it: the question's number, the top, an entry or the end.
  abbrev pub Follows : Read → List ℕ → Read → Type 0
  Follows nothing line next = (number : ℕ) × (number < 2 ^ 32) × (line ≡ codes "refutation of question " ++ decimal number) × (next ≡ question number)
  Follows (question number) line next =
      (text : List ℕ) × (top : Piece) × (line ≡ codes "word at " ++ text) × IsPieceText text top × (next ≡ begun number (record { top = top; entries = [] }))
  Follows (begun number x) line next =
      ((line ≡ codes "end") × (next ≡ whole number x))
      ⊎ ((entry : Entry) × IsEntryText line entry × IsWithin (with_entry x entry) × (next ≡ begun number (with_entry x entry)))
  Follows (whole number x) line next = ⊥

  -- so many lines, each ended, go on from what was read, and leave the rest of the bytes
  unfoldable pub Leads : ℕ → Read → List ℕ → Read → List ℕ → Type 0
  Leads zero from bytes to rest = (from ≡ to) × (bytes ≡ rest)
  Leads (suc n) from bytes to rest =
      (line : List ℕ) × (others : List ℕ) × (next : Read) × (bytes ≡ line ++ (10 ∷ others)) × Follows from line next × Leads n next others to rest

  -- The bytes are the text of the refutation of the question with the number, and what stands behind it.
  abbrev pub IsRefutationText : List ℕ → ℕ → Refutation → List ℕ → Type 0
  IsRefutationText bytes number x rest = (n : ℕ) × Leads n nothing bytes (whole number x) rest

  -- The line, counted from 1, is the first that isn't in the form of its place, or isn't ended: the lines before it
  -- go on, not yet to the end, and no ended line goes on from there.
  pub record IsBadLine (bytes : List ℕ) (line : ℕ) : Type 0 where
    pub before : ℕ
    pub counted : line ≡ before + 1
    pub read : Read
    pub rest : List ℕ
    pub leads : Leads before nothing bytes read rest
    pub unfinished : (number : ℕ) (x : Refutation) → read ≡ whole number x → ⊥
    pub stops : (text others : List ℕ) (next : Read) → rest ≡ text ++ (10 ∷ others) → Follows read text next → ⊥

  -- a text is that of one refutation of one question; else one line is the bad one
  pub record AreReadOneWay (bytes : List ℕ) : Type 0 where
    pub alone : (number other : ℕ) (x y : Refutation) (rest behind : List ℕ) → IsRefutationText bytes number x rest → IsRefutationText bytes other y behind → AreSame number other x y rest behind
    pub one_line : (line other : ℕ) → IsBadLine bytes line → IsBadLine bytes other → line ≡ other
    pub apart : (line number : ℕ) (x : Refutation) (rest : List ℕ) → IsBadLine bytes line → IsRefutationText bytes number x rest → ⊥

abbrev pub TextsAreReadOneWay : Type 0
TextsAreReadOneWay = (pointer : ℕ) (bytes : List ℕ) → AreReadOneWay pointer bytes
