-- The text of a word, as bytes: pieces with one space between them, each for one cell or for all cells of a
-- reference, once or so many times. The form is this project's.
use Rattle.std.specs.Prelude.{◌≡◌, ℕ, zero, suc, ◌/◌, ◌%◌, ◌<◌, ◌≤◌, ◌^◌, ◌⊎◌, false, List, [], ◌∷◌, ◌++◌, length, codes}
use Rattle.std.specs.Fmt.{decimal, digit_glyph}
use Rattle.tm_base.specs.declared.cell.Cell.TheVariants.{Byte, Uninit}
use Rattle.tm_base.specs.Cells.{Word, pointer_of}

-- the greatest number of cells of a word, and how often a piece is repeated at most
abbrev pub most_cells : ℕ
most_cells = 65536

-- what a piece stands for, before it is repeated
pub data Part : Type 0 where
  -- an initialised byte
  byte : ℕ → Part
  -- an uninitialised byte
  uninit : Part
  -- all cells of a reference
  reference : ℕ → Part

-- its number is one of a byte or of a reference
abbrev pub IsPart : Part → Type 0
IsPart (byte b) = b < 256
IsPart uninit = Unit {0}
IsPart (reference k) = k < 2 ^ 32

-- as `0a`, `--` and `&1`
abbrev pub part_text : Part → List ℕ
part_text (byte b) = digit_glyph false (b / 16) ∷ digit_glyph false (b % 16) ∷ []
part_text uninit = codes "--"
part_text (reference k) = codes "&" ++ decimal k

-- so many times the same cells, one after another
abbrev pub repeated : ℕ → Word → Word
repeated zero cells = []
repeated (suc n) cells = cells ++ repeated n cells

module _ (pointer : ℕ) where
  -- its cells, where a reference has so many bytes
  abbrev pub part_cells : Part → Word
  part_cells (byte b) = Byte b ∷ []
  part_cells uninit = Uninit ∷ []
  part_cells (reference k) = pointer_of pointer k

  -- a part once, as `00`
  pub record IsOnce (part : Part) (text : List ℕ) (cells : Word) : Type 0 where
    pub text_is : text ≡ part_text part
    pub cells_are : cells ≡ part_cells part

  -- a part so many times, as `00*8`
  pub record IsTimes (part : Part) (n : ℕ) (text : List ℕ) (cells : Word) : Type 0 where
    pub some : 1 ≤ n
    pub few : n ≤ most_cells
    pub text_is : text ≡ part_text part ++ (codes "*" ++ decimal n)
    pub cells_are : cells ≡ repeated n (part_cells part)

  abbrev pub IsPiece : List ℕ → Word → Type 0
  IsPiece text cells = (part : Part) × IsPart part × (IsOnce part text cells ⊎ ((n : ℕ) × IsTimes part n text cells))

  -- pieces with one space between them
  pub data ArePieces : List ℕ → Word → Type 0 where
    one : (text : List ℕ) (cells : Word) → IsPiece text cells → ArePieces text cells
    more : (text first rest : List ℕ) (cells u v : Word) → text ≡ first ++ (codes " " ++ rest) → cells ≡ u ++ v → IsPiece first u → ArePieces rest v → ArePieces text cells

  -- `empty`, or pieces; never too many cells
  pub record IsWordText (text : List ℕ) (w : Word) : Type 0 where
    pub form : ((text ≡ codes "empty") × (w ≡ [])) ⊎ ArePieces text w
    pub few : length w ≤ most_cells
