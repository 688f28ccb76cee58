-- Cells and words: what is known of the bytes of a value, from its first byte on.
-- Initialised and uninitialised bytes are those of the documentation of `core::mem::MaybeUninit`;
-- that a byte may be one of a reference, and of which, is this project's.
use Rattle.std.specs.Prelude.{ℕ, ◌≡◌, ◌+◌, ◌-◌, ◌*◌, ◌<◌, ◌^◌, ◌⊎◌, ◌==◌, Bool, ◌||◌, List, [], ◌∷◌, ◌++◌, length, take, map, replicate, zero, suc}
use Rattle.std.specs.List.{range_with_len}
use Rattle.tm_base.specs.declared.cell.Cell.{Cell}
use Rattle.tm_base.specs.declared.cell.Cell.TheVariants.{Byte, Uninit, Ptr}

-- the cells of a value, the first byte's first
abbrev pub Word : Type 0
Word = List Cell

-- an initialised byte
abbrev pub IsByte : Cell → Type 0
IsByte (Byte b) = b < 256
IsByte Uninit = ⊥
IsByte (Ptr r k) = ⊥

-- a byte that nothing is asked of, as in padding: it may be uninitialised, and is no reference's
abbrev pub IsFree : Cell → Type 0
IsFree (Byte b) = b < 256
IsFree Uninit = Unit {0}
IsFree (Ptr r k) = ⊥

abbrev pub byte_of : Cell → ℕ
byte_of (Byte b) = b
byte_of Uninit = 0
byte_of (Ptr r k) = 0

-- the number that some bytes hold, the least byte first
abbrev pub little_endian : Word → ℕ
little_endian [] = 0
little_endian (c ∷ cs) = byte_of c + 256 * little_endian cs

-- all cells of a value of the reference type x, where a reference has so many bytes
abbrev pub pointer_of : ℕ → ℕ → Word
pointer_of size x = map (λ k. Ptr (record { 0 = x }) k) (range_with_len 0 size)

-- A word whose references are whole: each stands with all its cells, from the first to the last, and between
-- them stand bytes that are no reference's.
pub data HasWholeReferences (size : ℕ) : Word → Type 0 where
  nothing_left : (w : Word) → w ≡ [] → HasWholeReferences size w
  byte_first : (b : ℕ) (w rest : Word) → w ≡ Byte b ∷ rest → HasWholeReferences size rest → HasWholeReferences size w
  uninit_first : (w rest : Word) → w ≡ Uninit ∷ rest → HasWholeReferences size rest → HasWholeReferences size w
  reference_first : (x : ℕ) (w rest : Word) → w ≡ pointer_of size x ++ rest → HasWholeReferences size rest → HasWholeReferences size w

-- A relation of source references to target references says which value a reference may hold. Where
-- a target reference t may also hold itself, as a place that no source fills yet, the value is of the
-- reference own t, which no source has, since the numbers of all references are below 2 ^ 32.
abbrev pub own : ℕ → ℕ
own t = 2 ^ 32 + t

abbrev pub OrOwn : (ℕ → ℕ → Type 0) → ℕ → ℕ → Type 0
OrOwn A x t = A x t ⊎ (x ≡ own t)

-- The same of a test. So what holds for every test of references holds where they may hold themselves.
abbrev pub or_own : (ℕ → ℕ → Bool) → ℕ → ℕ → Bool
or_own test x t = test x t || (x == own t)

-- What m bytes hold where w was written: its first m cells, and uninitialised bytes up to m.
-- The documentation of `core::mem::TransmuteFrom`: reading one field of a `repr(C)` union after
-- another was written.
abbrev pub fit : Word → ℕ → Word
fit w m = take m w ++ replicate (m - length w) Uninit

-- n words that P holds of, one after another
abbrev pub Times : ℕ → (Word → Type 0) → Word → Type 0
Times zero P w = w ≡ []
Times (suc n) P w = (u : Word) × (v : Word) × (w ≡ u ++ v) × P u × Times n P v
