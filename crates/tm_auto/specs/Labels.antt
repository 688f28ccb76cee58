-- Labels of edges: which cells they take, and which of them may follow one another.
use Rattle.std.specs.Prelude.{◌≡◌, ℕ, zero, suc, ◌≤◌, ◌<◌, ◌^◌}
use Rattle.tm_base.specs.declared.cell.Cell.{Cell}
use Rattle.tm_base.specs.declared.cell.Cell.TheVariants.{Byte, Ptr}
use Rattle.tm_base.specs.Cells.{IsFree}
use Rattle.tm_auto.specs.declared.edge.Label.{Label}
use Rattle.tm_auto.specs.declared.edge.Label.TheVariants.{Bytes, Free, Leaf}

-- the label takes the cell, where A says which value a reference may hold
abbrev pub Takes : (ℕ → ℕ → Type 0) → Label → Cell → Type 0
Takes A (Bytes low high) c = (b : ℕ) × (low ≤ b) × (b ≤ high) × (c ≡ Byte b)
Takes A Free c = IsFree c
Takes A (Leaf t k) c = (x : ℕ) × A x t.0 × (c ≡ Ptr (record { 0 = x }) k)

-- the label takes something: its range has a byte, its reference is one and has the place
abbrev pub CanTake : ℕ → Label → Type 0
CanTake pointer (Bytes low high) = (low ≤ high) × (high < 256)
CanTake pointer Free = Unit {0}
CanTake pointer (Leaf t k) = (t.0 < 2 ^ 32) × (k < pointer)

-- the label may stand first: it is no later byte of a reference
abbrev pub Begins : Label → Type 0
Begins (Bytes low high) = Unit {0}
Begins Free = Unit {0}
Begins (Leaf t zero) = Unit {0}
Begins (Leaf t (suc k)) = ⊥

-- The second label may follow the first: a later byte of a reference follows the byte before it, and
-- nothing else.
abbrev pub Joins : Label → Label → Type 0
Joins l (Bytes low high) = Unit {0}
Joins l Free = Unit {0}
Joins l (Leaf t zero) = Unit {0}
Joins l (Leaf t (suc k)) = l ≡ Leaf t k
