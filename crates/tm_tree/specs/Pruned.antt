-- A tree without its private parts: they stay as what they hold, or go with all that stands with them in a row.
use Rattle.std.specs.Prelude.{Bool, if◌then◌else◌, List, [], ◌∷◌}
use Rattle.tm_base.specs.declared.tree.Tree.{Tree, Row_of-Tree, end_of-Tree, more_of-Tree, Never, Range, Pad, Ref, Seq', Alt', Repeat', Private'}
use Rattle.tm_niche.specs.Forms.{joined, one_of, repeated}

module _ (keep : Bool) where
  unfoldable mutual
    pub pruned : Tree → Tree
    pruned Never = Never
    pruned (Range low high) = Range low high
    pruned Pad = Pad
    pruned (Ref t) = Ref t
    pruned (Seq' shape row) = joined (row_pruned row)
    pruned (Alt' shape row) = one_of (row_pruned row)
    pruned (Repeat' n shape (more_of-Tree t end_of-Tree)) = joined (repeated n (pruned t))
    pruned (Private' shape (more_of-Tree t end_of-Tree)) = if keep then pruned t else Never

    pub row_pruned : {m : _} → Row_of-Tree m → List Tree
    row_pruned end_of-Tree = []
    row_pruned (more_of-Tree t ts) = pruned t ∷ row_pruned ts

  abbrev pub all_pruned : List Tree → List Tree
  all_pruned [] = []
  all_pruned (t ∷ ts) = pruned t ∷ all_pruned ts
