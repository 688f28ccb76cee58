-- What the loose words of a tree are, at each kind of tree.
use Rattle.std.proofs.Common.{◌≡◌, ℕ, sym, subst, List, [], ◌∷◌, ◌++◌, ◌↔◌, ◌⊎◌, inl, inr, ◌≤◌, ⊎_elim}
use Rattle.tm_base.specs.declared.cell.Cell.{Cell}
use Rattle.tm_base.specs.declared.cell.Cell.TheVariants.{Byte}
use Rattle.tm_base.specs.declared.cell.RefId.{RefId}
use Rattle.tm_base.specs.declared.tree.Tree.{Tree, Row_of-Tree, end_of-Tree, more_of-Tree, items-the_row-Tree, items_hidden-the_row-Tree-0, Seq, Alt, Repeat, Ref, Range, Pad, Never}
use Rattle.tm_base.specs.declared.tree.Tree.TheBlock.{hidden-the_row-Tree-0, shape-the_row-Tree-1, hidden-the_row-Tree-1}
use Rattle.tm_base.specs.Cells.{Word, Times, IsFree}
use Rattle.tm_auto.specs.Loose.{LooseWord, LooseBytes, RowLooseInTurn, RowLooseOneOf, LooseInTurn, LooseOneOf}

module _ (pointer : ℕ) (A : ℕ → ℕ → Type 0) where
  LooseInTurn-row : {n : _} (row : Row_of-Tree n) (w : Word) → RowLooseInTurn pointer A row w ↔ LooseInTurn pointer A (items-the_row-Tree n row) w
  unfolding LooseWord
  LooseInTurn-row end_of-Tree w = (λ h. h, λ h. h)
  LooseInTurn-row (more_of-Tree t ts) w = (
    λ (u, v, e, p, q). (u, v, e, p, (LooseInTurn-row ts v).0 q),
    λ (u, v, e, p, q). (u, v, e, p, (LooseInTurn-row ts v).1 q),
  )

  LooseOneOf-row : {n : _} (row : Row_of-Tree n) (w : Word) → RowLooseOneOf pointer A row w ↔ LooseOneOf pointer A (items-the_row-Tree n row) w
  unfolding LooseWord
  LooseOneOf-row end_of-Tree w = (λ h. h, λ h. h)
  LooseOneOf-row (more_of-Tree t ts) w = (
    ⊎_elim (λ p. inl p) (λ q. inr ((LooseOneOf-row ts w).0 q)),
    ⊎_elim (λ p. inl p) (λ q. inr ((LooseOneOf-row ts w).1 q)),
  )

  pub LooseWord-Seq : (ts : List Tree) (w : Word) → LooseWord pointer A (Seq ts) w ↔ LooseInTurn pointer A ts w
  unfolding LooseWord
  LooseWord-Seq ts w =
      let e = items_hidden-the_row-Tree-0 ts in
      let both = LooseInTurn-row (hidden-the_row-Tree-0 ts) w in
      (λ h. subst (λ xs. LooseInTurn pointer A xs w) e (both.0 h), λ h. both.1 (subst (λ xs. LooseInTurn pointer A xs w) (sym e) h))

  pub LooseWord-Alt : (ts : List Tree) (w : Word) → LooseWord pointer A (Alt ts) w ↔ LooseOneOf pointer A ts w
  unfolding LooseWord
  LooseWord-Alt ts w =
      let e = items_hidden-the_row-Tree-0 ts in
      let both = LooseOneOf-row (hidden-the_row-Tree-0 ts) w in
      (λ h. subst (λ xs. LooseOneOf pointer A xs w) e (both.0 h), λ h. both.1 (subst (λ xs. LooseOneOf pointer A xs w) (sym e) h))

  pub LooseWord-Repeat : (n : ℕ) (t : Tree) (w : Word) → LooseWord pointer A (Repeat n t) w ↔ Times n (LooseWord pointer A t) w
  unfolding LooseWord shape-the_row-Tree-1 hidden-the_row-Tree-1 denote.Hole.Carrier.hidden
  LooseWord-Repeat n t w = (λ h. h, λ h. h)

  pub LooseWord-Ref : (t : RefId) (w : Word) → LooseWord pointer A (Ref t) w ↔ LooseBytes A t.0 0 pointer w
  unfolding LooseWord
  LooseWord-Ref t w = (λ h. h, λ h. h)

  pub LooseWord-Range : (low high : ℕ) (w : Word) → LooseWord pointer A (Range low high) w ↔ ((b : ℕ) × (low ≤ b) × (b ≤ high) × (w ≡ Byte b ∷ []))
  unfolding LooseWord
  LooseWord-Range low high w = (λ h. h, λ h. h)

  pub LooseWord-Pad : (w : Word) → LooseWord pointer A Pad w ↔ ((c : Cell) × IsFree c × (w ≡ c ∷ []))
  unfolding LooseWord
  LooseWord-Pad w = (λ h. h, λ h. h)

  pub LooseWord-Never : (w : Word) → LooseWord pointer A Never w → ⊥
  unfolding LooseWord
  LooseWord-Never w h = h

  -- one more tree at the end
  pub LooseOneOf-more : (ts : List Tree) (t : Tree) (w : Word) → LooseOneOf pointer A (ts ++ t ∷ []) w ↔ (LooseOneOf pointer A ts w ⊎ LooseWord pointer A t w)
  LooseOneOf-more [] t w = (⊎_elim (λ x. inr x) (λ x. absurd x), ⊎_elim (λ x. absurd x) (λ x. inl x))
  LooseOneOf-more (s ∷ ts) t w =
      let both = LooseOneOf-more ts t w in
      (⊎_elim (λ x. inl (inl x)) (λ x. ⊎_elim (λ y. inl (inr y)) (λ y. inr y) (both.0 x)), ⊎_elim (⊎_elim (λ x. inl x) (λ x. inr (both.1 (inl x)))) (λ x. inr (both.1 (inr x))))
