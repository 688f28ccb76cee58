-- Lists of cells in which references stand whole from their first byte on.
use Rattle.std.specs.Prelude.{◌≡◌, ℕ, zero, suc, ◌<◌, ◌^◌, [], ◌∷◌}
use Rattle.tm_base.specs.declared.cell.Cell.{Cell}
use Rattle.tm_base.specs.declared.cell.Cell.TheVariants.{Byte, Uninit, Ptr}
use Rattle.tm_base.specs.Cells.{Word}

-- the second cell may follow the first: a later byte of a reference follows the byte before it alone
abbrev pub Follows : Cell → Cell → Type 0
Follows before (Byte b) = Unit {0}
Follows before Uninit = Unit {0}
Follows before (Ptr r zero) = Unit {0}
Follows before (Ptr r (suc k)) = before ≡ Ptr r k

-- each cell may follow the one before it, and the first one this cell
abbrev pub JoinedAfter : Cell → Word → Type 0
JoinedAfter before [] = Unit {0}
JoinedAfter before (c ∷ w) = Follows before c × JoinedAfter c w

-- each later byte of a reference directly follows the byte before it: no list begins with one
abbrev pub IsJoined : Word → Type 0
IsJoined = JoinedAfter Uninit

-- the cell isn't one by which a target reference holds itself
abbrev pub IsNotOwn : Cell → Type 0
IsNotOwn (Byte b) = Unit {0}
IsNotOwn Uninit = Unit {0}
IsNotOwn (Ptr r k) = r.0 < 2 ^ 32

abbrev pub HasNoOwn : Word → Type 0
HasNoOwn [] = Unit {0}
HasNoOwn (c ∷ w) = IsNotOwn c × HasNoOwn w

-- where a reference has `pointer` bytes
module _ (pointer : ℕ) where
  -- the byte of the next place of the same reference comes first
  abbrev pub GoesOn : Cell → Word → Type 0
  GoesOn (Byte b) w = Unit {0}
  GoesOn Uninit w = Unit {0}
  GoesOn (Ptr r k) w = suc k < pointer → (v : Word) × (w ≡ Ptr r (suc k) ∷ v)

  -- each byte of a reference but the last is directly followed by the next
  abbrev pub IsUnbroken : Word → Type 0
  IsUnbroken [] = Unit {0}
  IsUnbroken (c ∷ w) = GoesOn c w × IsUnbroken w
