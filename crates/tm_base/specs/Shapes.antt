-- What is asked of the shape of a tree, and of the size of its words.
use Rattle.std.specs.Prelude.{◌≡◌, ℕ, ◌+◌, ◌*◌, ◌≤◌, Bool, true, List, [], ◌∷◌, length}
use Rattle.tm_base.specs.declared.tree.Tree.{Tree, Row_of-Tree, end_of-Tree, more_of-Tree, Never, Range, Pad, Ref, Seq', Alt', Repeat', Private'}
use Rattle.tm_base.specs.Cells.{Word}
use Rattle.tm_base.specs.Transmutes.{holds}
use Rattle.tm_base.specs.Trees.{TreeWord}

-- How many leaves a tree has, where a leaf is one cell, a reference has `pointer` of them, and a
-- repetition has its part's at each turn.
module _ (pointer : ℕ) where
  unfoldable mutual
    pub leaves_of : Tree → ℕ
    leaves_of Never = 0
    leaves_of (Range low high) = 1
    leaves_of Pad = 1
    leaves_of (Ref t) = pointer
    leaves_of (Seq' shape row) = row_leaves row
    leaves_of (Alt' shape row) = row_leaves row
    leaves_of (Repeat' n shape row) = n * row_leaves row
    leaves_of (Private' shape row) = row_leaves row

    pub row_leaves : {m : _} → Row_of-Tree m → ℕ
    row_leaves end_of-Tree = 0
    row_leaves (more_of-Tree t ts) = leaves_of t + row_leaves ts

  abbrev pub all_leaves : List Tree → ℕ
  all_leaves [] = 0
  all_leaves (t ∷ ts) = leaves_of t + all_leaves ts

-- no part of the tree is private
unfoldable mutual
  pub HasNoPrivate : Tree → Type 0
  HasNoPrivate Never = Unit {0}
  HasNoPrivate (Range low high) = Unit {0}
  HasNoPrivate Pad = Unit {0}
  HasNoPrivate (Ref t) = Unit {0}
  HasNoPrivate (Seq' shape row) = RowHasNoPrivate row
  HasNoPrivate (Alt' shape row) = RowHasNoPrivate row
  HasNoPrivate (Repeat' n shape row) = RowHasNoPrivate row
  HasNoPrivate (Private' shape row) = ⊥

  pub RowHasNoPrivate : {m : _} → Row_of-Tree m → Type 0
  RowHasNoPrivate end_of-Tree = Unit {0}
  RowHasNoPrivate (more_of-Tree t ts) = HasNoPrivate t × RowHasNoPrivate ts

abbrev pub NonePrivate : List Tree → Type 0
NonePrivate [] = Unit {0}
NonePrivate (t ∷ ts) = HasNoPrivate t × NonePrivate ts

-- how many trees a row has
abbrev pub row_length : {m : _} → Row_of-Tree m → ℕ
row_length end_of-Tree = 0
row_length (more_of-Tree t ts) = 1 + row_length ts

-- no alternative in the tree has two members or more
unfoldable mutual
  pub HasNoChoice : Tree → Type 0
  HasNoChoice Never = Unit {0}
  HasNoChoice (Range low high) = Unit {0}
  HasNoChoice Pad = Unit {0}
  HasNoChoice (Ref t) = Unit {0}
  HasNoChoice (Seq' shape row) = RowHasNoChoice row
  HasNoChoice (Alt' shape row) = (row_length row ≤ 1) × RowHasNoChoice row
  HasNoChoice (Repeat' n shape row) = RowHasNoChoice row
  HasNoChoice (Private' shape row) = RowHasNoChoice row

  pub RowHasNoChoice : {m : _} → Row_of-Tree m → Type 0
  RowHasNoChoice end_of-Tree = Unit {0}
  RowHasNoChoice (more_of-Tree t ts) = HasNoChoice t × RowHasNoChoice ts

abbrev pub NoneHasChoice : List Tree → Type 0
NoneHasChoice [] = Unit {0}
NoneHasChoice (t ∷ ts) = HasNoChoice t × NoneHasChoice ts

-- whatever its references may hold, each word of the tree, its private parts' among them, has so many cells
abbrev pub HasSize : ℕ → ℕ → Tree → Type 0
HasSize pointer size t = (A : ℕ → ℕ → Bool) (w : Word) → TreeWord pointer (holds A) true t w → length w ≡ size
