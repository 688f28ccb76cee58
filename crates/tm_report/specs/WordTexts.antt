-- The text of a source word, as bytes: its cells from the first on, with equal ones joined. The form is this
-- project's.
use Rattle.std.specs.Prelude.{ℕ, zero, suc, ◌+◌, ◌<◌, ◌^◌, ◌/◌, ◌%◌, ◌==◌, ◌&&◌, Bool, true, false, nat_lt, if◌then◌else◌, List, [], ◌∷◌, ◌++◌, flat_map, replicate, codes}
use Rattle.std.specs.Fmt.{decimal, digit_glyph}
use Rattle.tm_base.specs.declared.cell.Cell.{Cell}
use Rattle.tm_base.specs.declared.cell.Cell.TheVariants.{Byte, Uninit, Ptr}
use Rattle.tm_base.specs.declared.cell.RefId.{RefId}
use Rattle.tm_base.specs.Cells.{Word}

-- a digit of base 16, in lower case
abbrev pub hex_digit : ℕ → ℕ
hex_digit = digit_glyph false

-- as `0a`
abbrev pub byte_text : ℕ → List ℕ
byte_text b = hex_digit (b / 16) ∷ hex_digit (b % 16) ∷ []

-- as `&1`
abbrev pub reference_text : RefId → List ℕ
reference_text id = codes "&" ++ decimal id.0

abbrev pub cell_text : Cell → List ℕ
cell_text (Byte b) = byte_text b
cell_text Uninit = codes "--"
cell_text (Ptr id k) = reference_text id

-- a cell's numbers are in the ranges of their types
abbrev pub IsCell : Cell → Type 0
IsCell (Byte b) = b < 2 ^ 8
IsCell Uninit = Unit {0}
IsCell (Ptr id k) = id.0 < 2 ^ 32

-- What is written of a word, one after another.
pub data Piece : Type 0 where
  -- so many equal cells, none of them a reference's: as many as stand together
  run : ℕ → Cell → Piece
  -- a whole reference
  reference : RefId → Piece

-- whether two cells are equal
abbrev pub are_alike : Cell → Cell → Bool
are_alike (Byte b) (Byte c) = b == c
are_alike Uninit Uninit = true
are_alike (Ptr x j) (Ptr y k) = (x.0 == y.0) && (j == k)
are_alike _ _ = false

-- so many equal cells in front of some pieces: a run of the like there becomes longer
abbrev pub run_before : ℕ → Cell → List Piece → List Piece
run_before n cell [] = run n cell ∷ []
run_before n cell (reference id ∷ rest) = run n cell ∷ reference id ∷ rest
run_before n cell (run m other ∷ rest) = if are_alike cell other then run (n + m) cell ∷ rest else run n cell ∷ run m other ∷ rest

-- a cell in front of some pieces: the first cell of a reference stands for the whole
abbrev pub cell_before : Cell → List Piece → List Piece
cell_before (Byte b) rest = run_before 1 (Byte b) rest
cell_before Uninit rest = run_before 1 Uninit rest
cell_before (Ptr id zero) rest = reference id ∷ rest
cell_before (Ptr id (suc k)) rest = rest

-- the pieces of a word whose references are whole
abbrev pub pieces : Word → List Piece
pieces [] = []
pieces (cell ∷ rest) = cell_before cell (pieces rest)

-- a run of four cells or more is one text, as `00*8`; a shorter one is a text for each cell
abbrev pub piece_texts : Piece → List (List ℕ)
piece_texts (run n cell) = if nat_lt n 4 then replicate n (cell_text cell) else (cell_text cell ++ codes "*" ++ decimal n) ∷ []
piece_texts (reference id) = reference_text id ∷ []

-- each text behind a space
abbrev pub behind_spaces : List (List ℕ) → List ℕ
behind_spaces = flat_map (λ text. codes " " ++ text)

-- texts with one space between them; `empty` where there is none
abbrev pub spaced : List (List ℕ) → List ℕ
spaced [] = codes "empty"
spaced (text ∷ texts) = text ++ behind_spaces texts

-- as `00 -- 00*6` and `00*8 &1`
abbrev pub word_text : Word → List ℕ
word_text w = spaced (flat_map piece_texts (pieces w))
