-- The words of a tree where each byte of a reference may be another's: what the edges alone spell. The
-- joined ones among them are the words of the tree. A reference has `pointer` bytes.
use Rattle.std.specs.Prelude.{◌≡◌, ℕ, zero, suc, ◌≤◌, ◌⊎◌, List, [], ◌∷◌, ◌++◌}
use Rattle.tm_base.specs.declared.cell.Cell.{Cell}
use Rattle.tm_base.specs.declared.cell.Cell.TheVariants.{Byte, Ptr}
use Rattle.tm_base.specs.declared.tree.Tree.{Tree, Row_of-Tree, end_of-Tree, more_of-Tree, Never, Range, Pad, Ref, Seq', Alt', Repeat', Private'}
use Rattle.tm_base.specs.Cells.{Word, IsFree, Times}

-- so many bytes of a reference from a place on, each of some value that it may hold
abbrev pub LooseBytes : (ℕ → ℕ → Type 0) → ℕ → ℕ → ℕ → Word → Type 0
LooseBytes A t k zero w = w ≡ []
LooseBytes A t k (suc n) w = (x : ℕ) × (v : Word) × A x t × (w ≡ Ptr (record { 0 = x }) k ∷ v) × LooseBytes A t (suc k) n v

module _ (pointer : ℕ) (A : ℕ → ℕ → Type 0) where
  unfoldable mutual
    pub LooseWord : Tree → Word → Type 0
    LooseWord Never w = ⊥
    LooseWord (Range low high) w = (b : ℕ) × (low ≤ b) × (b ≤ high) × (w ≡ Byte b ∷ [])
    LooseWord Pad w = (c : Cell) × IsFree c × (w ≡ c ∷ [])
    LooseWord (Ref t) w = LooseBytes A t.0 0 pointer w
    LooseWord (Seq' shape row) w = RowLooseInTurn row w
    LooseWord (Alt' shape row) w = RowLooseOneOf row w
    LooseWord (Repeat' n shape row) w = RowLooseTimes n row w
    LooseWord (Private' shape row) w = ⊥

    pub RowLooseInTurn : {m : _} → Row_of-Tree m → Word → Type 0
    RowLooseInTurn end_of-Tree w = w ≡ []
    RowLooseInTurn (more_of-Tree t ts) w = (u : Word) × (v : Word) × (w ≡ u ++ v) × LooseWord t u × RowLooseInTurn ts v

    pub RowLooseOneOf : {m : _} → Row_of-Tree m → Word → Type 0
    RowLooseOneOf end_of-Tree w = ⊥
    RowLooseOneOf (more_of-Tree t ts) w = LooseWord t w ⊎ RowLooseOneOf ts w

    pub RowLooseTimes : {m : _} → ℕ → Row_of-Tree m → Word → Type 0
    RowLooseTimes n end_of-Tree w = ⊥
    RowLooseTimes n (more_of-Tree t ts) w = Times n (LooseWord t) w

  -- a word of each tree in turn
  abbrev pub LooseInTurn : List Tree → Word → Type 0
  LooseInTurn [] w = w ≡ []
  LooseInTurn (t ∷ ts) w = (u : Word) × (v : Word) × (w ≡ u ++ v) × LooseWord t u × LooseInTurn ts v

  -- a word of one of the trees
  abbrev pub LooseOneOf : List Tree → Word → Type 0
  LooseOneOf [] w = ⊥
  LooseOneOf (t ∷ ts) w = LooseWord t w ⊎ LooseOneOf ts w
