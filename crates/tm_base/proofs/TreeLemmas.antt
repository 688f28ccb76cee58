-- What the words of a tree are, at each kind of tree that holds others.
use Rattle.std.proofs.Common.{ℕ, sym, subst, Bool, List, ◌↔◌, inl, inr, IsTrue, ⊎_elim}
use Rattle.tm_base.specs.declared.tree.Tree.{Tree, Row_of-Tree, end_of-Tree, more_of-Tree, items-the_row-Tree, items_hidden-the_row-Tree-0, Seq, Alt, Repeat, Private}
use Rattle.tm_base.specs.declared.tree.Tree.TheBlock.{hidden-the_row-Tree-0, shape-the_row-Tree-1, hidden-the_row-Tree-1}
use Rattle.tm_base.specs.Cells.{Word, Times}
use Rattle.tm_base.specs.Laws.{TreesRead}
use Rattle.tm_base.specs.Trees.{TreeWord, RowInTurn, RowOneOf, InTurn, OneOf}

module _ (pointer : ℕ) (A : ℕ → ℕ → Type 0) (keep : Bool) where
  InTurn-row : {n : _} (row : Row_of-Tree n) (w : Word) → RowInTurn pointer A keep row w ↔ InTurn pointer A keep (items-the_row-Tree n row) w
  unfolding TreeWord
  InTurn-row end_of-Tree w = (λ h. h, λ h. h)
  InTurn-row (more_of-Tree t ts) w = (
    λ (u, v, e, p, q). (u, v, e, p, (InTurn-row ts v).0 q),
    λ (u, v, e, p, q). (u, v, e, p, (InTurn-row ts v).1 q),
  )

  OneOf-row : {n : _} (row : Row_of-Tree n) (w : Word) → RowOneOf pointer A keep row w ↔ OneOf pointer A keep (items-the_row-Tree n row) w
  unfolding TreeWord
  OneOf-row end_of-Tree w = (λ h. h, λ h. h)
  OneOf-row (more_of-Tree t ts) w = (
    ⊎_elim (λ p. inl p) (λ q. inr ((OneOf-row ts w).0 q)),
    ⊎_elim (λ p. inl p) (λ q. inr ((OneOf-row ts w).1 q)),
  )

  pub TreeWord-Seq : (ts : List Tree) (w : Word) → TreeWord pointer A keep (Seq ts) w ↔ InTurn pointer A keep ts w
  unfolding TreeWord
  TreeWord-Seq ts w =
      let e = items_hidden-the_row-Tree-0 ts in
      let both = InTurn-row (hidden-the_row-Tree-0 ts) w in
      (λ h. subst (λ xs. InTurn pointer A keep xs w) e (both.0 h), λ h. both.1 (subst (λ xs. InTurn pointer A keep xs w) (sym e) h))

  pub TreeWord-Alt : (ts : List Tree) (w : Word) → TreeWord pointer A keep (Alt ts) w ↔ OneOf pointer A keep ts w
  unfolding TreeWord
  TreeWord-Alt ts w =
      let e = items_hidden-the_row-Tree-0 ts in
      let both = OneOf-row (hidden-the_row-Tree-0 ts) w in
      (λ h. subst (λ xs. OneOf pointer A keep xs w) e (both.0 h), λ h. both.1 (subst (λ xs. OneOf pointer A keep xs w) (sym e) h))

  pub TreeWord-Repeat : (n : ℕ) (t : Tree) (w : Word) → TreeWord pointer A keep (Repeat n t) w ↔ Times n (TreeWord pointer A keep t) w
  unfolding TreeWord shape-the_row-Tree-1 hidden-the_row-Tree-1 denote.Hole.Carrier.hidden
  TreeWord-Repeat n t w = (λ h. h, λ h. h)

  pub TreeWord-Private : (t : Tree) (w : Word) → TreeWord pointer A keep (Private t) w ↔ (IsTrue keep × TreeWord pointer A keep t w)
  unfolding TreeWord shape-the_row-Tree-1 hidden-the_row-Tree-1 denote.Hole.Carrier.hidden
  TreeWord-Private t w = (λ h. (h.0, ⊎_elim (λ x. x) (λ x. absurd x) h.1), λ h. (h.0, inl h.1))

  -- the words of each kind of tree
  pub trees-read : TreesRead pointer A keep
  unfolding TreeWord
  trees-read =
      record {
        never = λ w h. h;
        range = λ low high w. (λ h. h, λ h. h);
        pad = λ w. (λ h. h, λ h. h);
        reference = λ t w. (λ h. h, λ h. h);
        sequence = TreeWord-Seq;
        alternative = TreeWord-Alt;
        repetition = TreeWord-Repeat;
        private = TreeWord-Private;
      }
