-- What is told of a tree by its shape alone.
use Rattle.std.specs.Prelude.{ℕ, ◌+◌, if◌then◌else◌, ◌==◌, nat_le, List, [], ◌∷◌}
use Rattle.tm_base.specs.declared.tree.Tree.{Tree, Row_of-Tree, end_of-Tree, more_of-Tree, Never, Range, Pad, Ref, Seq', Alt', Repeat', Private'}
use Rattle.tm_auto.specs.declared.extent.Extent.{Extent}
use Rattle.tm_auto.specs.declared.extent.Extent.TheVariants.{Dead, Empty, Long}

-- how many trees are in a tree, itself among them
unfoldable mutual
  pub nodes_of : Tree → ℕ
  nodes_of Never = 1
  nodes_of (Range low high) = 1
  nodes_of Pad = 1
  nodes_of (Ref t) = 1
  nodes_of (Seq' shape row) = 2 + row_nodes row
  nodes_of (Alt' shape row) = 2 + row_nodes row
  nodes_of (Repeat' n shape row) = 2 + row_nodes row
  nodes_of (Private' shape row) = 2 + row_nodes row

  pub row_nodes : {m : _} → Row_of-Tree m → ℕ
  row_nodes end_of-Tree = 0
  row_nodes (more_of-Tree t ts) = nodes_of t + row_nodes ts

abbrev pub all_nodes : List Tree → ℕ
all_nodes [] = 0
all_nodes (t ∷ ts) = nodes_of t + all_nodes ts

-- of two trees one after the other
abbrev pub both_extents : Extent → Extent → Extent
both_extents Dead other = Dead
both_extents Empty other = other
both_extents Long Dead = Dead
both_extents Long Empty = Long
both_extents Long Long = Long

-- of one tree or another: the first that has a word tells it
abbrev pub either_extent : Extent → Extent → Extent
either_extent Dead other = other
either_extent Empty other = Empty
either_extent Long other = Long

-- Whether a tree has no word, the empty one or one with cells. A private part counts as having none.
unfoldable mutual
  pub extent_of : Tree → Extent
  extent_of Never = Dead
  extent_of (Range low high) = if nat_le low high then Long else Dead
  extent_of Pad = Long
  extent_of (Ref t) = Long
  extent_of (Seq' shape row) = row_in_turn row
  extent_of (Alt' shape row) = row_one_of row
  extent_of (Repeat' n shape row) = row_times n row
  extent_of (Private' shape row) = Dead

  pub row_in_turn : {m : _} → Row_of-Tree m → Extent
  row_in_turn end_of-Tree = Empty
  row_in_turn (more_of-Tree t ts) = both_extents (extent_of t) (row_in_turn ts)

  pub row_one_of : {m : _} → Row_of-Tree m → Extent
  row_one_of end_of-Tree = Dead
  row_one_of (more_of-Tree t ts) = either_extent (extent_of t) (row_one_of ts)

  pub row_times : {m : _} → ℕ → Row_of-Tree m → Extent
  row_times n end_of-Tree = Dead
  row_times n (more_of-Tree t ts) = if n == 0 then Empty else extent_of t

-- of trees in turn, and of one of some
abbrev pub in_turn : List Tree → Extent
in_turn [] = Empty
in_turn (t ∷ ts) = both_extents (extent_of t) (in_turn ts)

abbrev pub one_of : List Tree → Extent
one_of [] = Dead
one_of (t ∷ ts) = either_extent (extent_of t) (one_of ts)
