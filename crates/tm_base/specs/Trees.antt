-- The words of a tree: sequence, alternative and repetition, as for regular expressions. A reference has
-- `pointer` bytes. A says which values it may hold, and `keep` that private parts keep their words.
use Rattle.std.specs.Prelude.{◌≡◌, ℕ, ◌≤◌, ◌⊎◌, Bool, IsTrue, List, [], ◌∷◌, ◌++◌}
use Rattle.tm_base.specs.declared.cell.Cell.{Cell}
use Rattle.tm_base.specs.declared.cell.Cell.TheVariants.{Byte}
use Rattle.tm_base.specs.declared.tree.Tree.{Tree, Row_of-Tree, end_of-Tree, more_of-Tree, Never, Range, Pad, Ref, Seq', Alt', Repeat', Private'}
use Rattle.tm_base.specs.Cells.{Word, IsFree, pointer_of, Times}

module _ (pointer : ℕ) (A : ℕ → ℕ → Type 0) (keep : Bool) where
  -- Over the form in which a tree holds other trees: the equations below are the ones to read.
  unfoldable mutual
    pub TreeWord : Tree → Word → Type 0
    TreeWord Never w = ⊥
    TreeWord (Range low high) w = (b : ℕ) × (low ≤ b) × (b ≤ high) × (w ≡ Byte b ∷ [])
    TreeWord Pad w = (c : Cell) × IsFree c × (w ≡ c ∷ [])
    TreeWord (Ref t) w = (x : ℕ) × A x t.0 × (w ≡ pointer_of pointer x)
    TreeWord (Seq' shape row) w = RowInTurn row w
    TreeWord (Alt' shape row) w = RowOneOf row w
    TreeWord (Repeat' n shape row) w = RowTimes n row w
    TreeWord (Private' shape row) w = IsTrue keep × RowOneOf row w

    pub RowInTurn : {m : _} → Row_of-Tree m → Word → Type 0
    RowInTurn end_of-Tree w = w ≡ []
    RowInTurn (more_of-Tree t ts) w = (u : Word) × (v : Word) × (w ≡ u ++ v) × TreeWord t u × RowInTurn ts v

    pub RowOneOf : {m : _} → Row_of-Tree m → Word → Type 0
    RowOneOf end_of-Tree w = ⊥
    RowOneOf (more_of-Tree t ts) w = TreeWord t w ⊎ RowOneOf ts w

    pub RowTimes : {m : _} → ℕ → Row_of-Tree m → Word → Type 0
    RowTimes n end_of-Tree w = ⊥
    RowTimes n (more_of-Tree t ts) w = Times n (TreeWord t) w

  -- a word of each tree in turn: what TreeWord (Seq ts) is
  abbrev pub InTurn : List Tree → Word → Type 0
  InTurn [] w = w ≡ []
  InTurn (t ∷ ts) w = (u : Word) × (v : Word) × (w ≡ u ++ v) × TreeWord t u × InTurn ts v

  -- a word of one of the trees: what TreeWord (Alt ts) is
  abbrev pub OneOf : List Tree → Word → Type 0
  OneOf [] w = ⊥
  OneOf (t ∷ ts) w = TreeWord t w ⊎ OneOf ts w
