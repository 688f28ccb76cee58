-- What a pruned tree is, and its words, leaves, private parts and alternatives.
use Rattle.std.proofs.Common.{◌≡◌, ℕ, ◌+◌, ◌*◌, ◌≤◌, refl, ap, ◌∙◌, Bool, true, false, if◌then◌else◌, IsTrue, List, [], ◌∷◌, ◌++◌, length, ◌↔◌, inl, inr, ⊎_elim, arith}
use Rattle.std.proofs.Math.Nat.{mul-le-mul_right}
use Rattle.tm_base.specs.declared.tree.Tree.{Tree, Row_of-Tree, end_of-Tree, more_of-Tree, items-the_row-Tree, items_hidden-the_row-Tree-0, Never, Range, Pad, Ref, Seq, Alt, Repeat, Private, Seq', Alt', Repeat', Private'}
use Rattle.tm_base.specs.declared.tree.Tree.TheBlock.{hidden-the_row-Tree-0, shape-the_row-Tree-1, hidden-the_row-Tree-1}
use Rattle.tm_base.specs.Cells.{Word}
use Rattle.tm_base.specs.Shapes.{leaves_of, row_leaves, all_leaves, row_length, HasNoPrivate, NonePrivate, HasNoChoice, RowHasNoChoice, NoneHasChoice}
use Rattle.tm_base.specs.Trees.{TreeWord, RowInTurn, RowOneOf, InTurn, OneOf}
use Rattle.tm_base.proofs.ValidLemmas.{Times-grows}
use Rattle.tm_niche.specs.Forms.{joined, one_of, repeated}
use Rattle.tm_niche.proofs.FormLemmas.{joined-leaves, joined-private, joined-single, one_of-leaves, one_of-private, repeated-leaves, repeated-private, repeated-single}
use Rattle.tm_niche.proofs.WordLemmas.{joined-words, none-Never, one_of-words, repeated-words}
use Rattle.tm_tree.specs.Pruned.{all_pruned, pruned, row_pruned}
use Rattle.tm_tree.proofs.SingleLemmas.{one_way}

module _ (keep : Bool) where
  row-same : {n : _} (row : Row_of-Tree n) → row_pruned keep row ≡ all_pruned keep (items-the_row-Tree n row)
  unfolding pruned
  row-same end_of-Tree = refl
  row-same (more_of-Tree t ts) = ap (λ ss. pruned keep t ∷ ss) (row-same ts)

  pub pruned-Never : pruned keep Never ≡ Never
  unfolding pruned
  pruned-Never = refl

  pub pruned-Range : (low high : ℕ) → pruned keep (Range low high) ≡ Range low high
  unfolding pruned
  pruned-Range low high = refl

  pub pruned-Pad : pruned keep Pad ≡ Pad
  unfolding pruned
  pruned-Pad = refl

  pub pruned-Ref : (r : _) → pruned keep (Ref r) ≡ Ref r
  unfolding pruned
  pruned-Ref r = refl

  pub pruned-Seq : (ts : List Tree) → pruned keep (Seq ts) ≡ joined (all_pruned keep ts)
  unfolding pruned
  pruned-Seq ts = ap joined (row-same (hidden-the_row-Tree-0 ts) ∙ ap (all_pruned keep) (items_hidden-the_row-Tree-0 ts))

  pub pruned-Alt : (ts : List Tree) → pruned keep (Alt ts) ≡ one_of (all_pruned keep ts)
  unfolding pruned
  pruned-Alt ts = ap one_of (row-same (hidden-the_row-Tree-0 ts) ∙ ap (all_pruned keep) (items_hidden-the_row-Tree-0 ts))

  pub pruned-Repeat : (n : ℕ) (t : Tree) → pruned keep (Repeat n t) ≡ joined (repeated n (pruned keep t))
  unfolding pruned shape-the_row-Tree-1 hidden-the_row-Tree-1 denote.Hole.Carrier.hidden
  pruned-Repeat n t = refl

  pub pruned-Private : (t : Tree) → pruned keep (Private t) ≡ (if keep then pruned keep t else Never)
  unfolding pruned shape-the_row-Tree-1 hidden-the_row-Tree-1 denote.Hole.Carrier.hidden
  pruned-Private t = refl

  pub all_pruned-next : (ts : List Tree) (t : Tree) → all_pruned keep (ts ++ (t ∷ [])) ≡ all_pruned keep ts ++ (pruned keep t ∷ [])
  all_pruned-next [] t = refl
  all_pruned-next (s ∷ ts) t = ap (λ ss. pruned keep s ∷ ss) (all_pruned-next ts t)

  -- ---- words

  module _ (pointer : ℕ) (A : ℕ → ℕ → Type 0) (any : Bool) where
    private-words : (t : Tree) (w : Word) (b : Bool) → keep ≡ b → TreeWord pointer A any (pruned keep t) w ↔ TreeWord pointer A keep t w
        → TreeWord pointer A any (if b then pruned keep t else Never) w ↔ (IsTrue keep × TreeWord pointer A keep t w)
    private-words t w true e (to, from) = (λ h. (e, to h), λ (k, h). from h)
    private-words t w false e both = (λ h. absurd (none-Never pointer A any w h), λ (k, h). cc)

    mutual
      unfolding pruned TreeWord

      pub pruned-words : (t : Tree) (w : Word) → TreeWord pointer A any (pruned keep t) w ↔ TreeWord pointer A keep t w
      pruned-words Never w = (λ h. h, λ h. h)
      pruned-words (Range low high) w = (λ h. h, λ h. h)
      pruned-words Pad w = (λ h. h, λ h. h)
      pruned-words (Ref t) w = (λ h. h, λ h. h)
      pruned-words (Seq' shape row) w =
          let outer = joined-words pointer A any (row_pruned keep row) w in
          let inner = row-in-turn row w in
          (λ h. inner.0 (outer.0 h), λ h. outer.1 (inner.1 h))
      pruned-words (Alt' shape row) w =
          let outer = one_of-words pointer A any (row_pruned keep row) w in
          let inner = row-one-of row w in
          (λ h. inner.0 (outer.0 h), λ h. outer.1 (inner.1 h))
      pruned-words (Repeat' n shape (more_of-Tree t end_of-Tree)) w =
          let outer = joined-words pointer A any (repeated n (pruned keep t)) w in
          let inner = repeated-words pointer A any n (pruned keep t) w in (
            λ h. Times-grows n (TreeWord pointer A any (pruned keep t)) (TreeWord pointer A keep t) (λ u. (pruned-words t u).0) w (inner.0 (outer.0 h)),
            λ h. outer.1 (inner.1 (Times-grows n (TreeWord pointer A keep t) (TreeWord pointer A any (pruned keep t)) (λ u. (pruned-words t u).1) w h)),
          )
      pruned-words (Private' shape (more_of-Tree t end_of-Tree)) w =
          let both = private-words t w keep refl (pruned-words t w) in
          (λ h. let (k, word) = both.0 h in (k, inl word), λ (k, h). both.1 (k, ⊎_elim (λ word. word) (λ none. absurd none) h))

      row-in-turn : {m : _} (row : Row_of-Tree m) (w : Word) → InTurn pointer A any (row_pruned keep row) w ↔ RowInTurn pointer A keep row w
      row-in-turn end_of-Tree w = (λ h. h, λ h. h)
      row-in-turn (more_of-Tree t ts) w = (
        λ (u, v, e, p, q). (u, v, e, (pruned-words t u).0 p, (row-in-turn ts v).0 q),
        λ (u, v, e, p, q). (u, v, e, (pruned-words t u).1 p, (row-in-turn ts v).1 q),
      )

      row-one-of : {m : _} (row : Row_of-Tree m) (w : Word) → OneOf pointer A any (row_pruned keep row) w ↔ RowOneOf pointer A keep row w
      row-one-of end_of-Tree w = (λ h. h, λ h. h)
      row-one-of (more_of-Tree t ts) w = (
        ⊎_elim (λ p. inl ((pruned-words t w).0 p)) (λ q. inr ((row-one-of ts w).0 q)),
        ⊎_elim (λ p. inl ((pruned-words t w).1 p)) (λ q. inr ((row-one-of ts w).1 q)),
      )

  -- ---- private parts

  mutual
    unfolding pruned HasNoPrivate

    pub pruned-public : (t : Tree) → HasNoPrivate (pruned keep t)
    pruned-public Never = tt
    pruned-public (Range low high) = tt
    pruned-public Pad = tt
    pruned-public (Ref t) = tt
    pruned-public (Seq' shape row) = joined-private (row_pruned keep row) (row-public row)
    pruned-public (Alt' shape row) = one_of-private (row_pruned keep row) (row-public row)
    pruned-public (Repeat' n shape (more_of-Tree t end_of-Tree)) = joined-private (repeated n (pruned keep t)) (repeated-private n (pruned keep t) (pruned-public t))
    pruned-public (Private' shape (more_of-Tree t end_of-Tree)) = let inside = pruned-public t in elim keep as (λ b. HasNoPrivate (if b then pruned keep t else Never)) [ true ↦ inside | false ↦ tt ]

    row-public : {m : _} (row : Row_of-Tree m) → NonePrivate (row_pruned keep row)
    row-public end_of-Tree = tt
    row-public (more_of-Tree t ts) = (pruned-public t, row-public ts)

  -- ---- leaves

  module _ (pointer : ℕ) where
    times-below : (n a b : ℕ) → a ≤ b → n * a ≤ n * b
    times-below n a b h = let x : n * a ≡ a * n = grind arith in let y : n * b ≡ b * n = grind arith in let z : a * n ≤ b * n = mul-le-mul_right n h in omega arith

    private-few : (t : Tree) (b : Bool) → leaves_of pointer (pruned keep t) ≤ leaves_of pointer t → leaves_of pointer (if b then pruned keep t else Never) ≤ leaves_of pointer t + 0
    unfolding leaves_of
    private-few t true h = omega arith
    private-few t false h = omega arith

    mutual
      unfolding pruned leaves_of

      pub pruned-leaves : (t : Tree) → leaves_of pointer (pruned keep t) ≤ leaves_of pointer t
      pruned-leaves Never = omega arith
      pruned-leaves (Range low high) = omega arith
      pruned-leaves Pad = omega arith
      pruned-leaves (Ref t) = omega arith
      pruned-leaves (Seq' shape row) = let inside = joined-leaves pointer (row_pruned keep row) in let all = row-few row in omega arith
      pruned-leaves (Alt' shape row) = let inside = one_of-leaves pointer (row_pruned keep row) in let all = row-few row in omega arith
      pruned-leaves (Repeat' n shape (more_of-Tree t end_of-Tree)) =
          let inside = joined-leaves pointer (repeated n (pruned keep t)) in
          let all = repeated-leaves pointer n (pruned keep t) in
          let each = pruned-leaves t in
          let times = times-below n (leaves_of pointer (pruned keep t)) (leaves_of pointer t + 0) (omega arith) in
          omega arith
      pruned-leaves (Private' shape (more_of-Tree t end_of-Tree)) = private-few t keep (pruned-leaves t)

      row-few : {m : _} (row : Row_of-Tree m) → all_leaves pointer (row_pruned keep row) ≤ row_leaves pointer row
      row-few end_of-Tree = omega arith
      row-few (more_of-Tree t ts) = let here = pruned-leaves t in let others = row-few ts in omega arith

  -- ---- alternatives

  mutual
    unfolding pruned HasNoChoice

    pub pruned-single : (t : Tree) → HasNoChoice t → HasNoChoice (pruned keep t)
    pruned-single Never h = tt
    pruned-single (Range low high) h = tt
    pruned-single Pad h = tt
    pruned-single (Ref t) h = tt
    pruned-single (Seq' shape row) h = joined-single (row_pruned keep row) (row-single row h)
    pruned-single (Alt' shape row) (n, h) = let count = row-count row in one_way (row_pruned keep row) (omega arith) (row-single row h)
    pruned-single (Repeat' n shape (more_of-Tree t end_of-Tree)) (h, end) = joined-single (repeated n (pruned keep t)) (repeated-single n (pruned keep t) (pruned-single t h))
    pruned-single (Private' shape (more_of-Tree t end_of-Tree)) (h, end) = let inside = pruned-single t h in elim keep as (λ b. HasNoChoice (if b then pruned keep t else Never)) [ true ↦ inside | false ↦ tt ]

    row-single : {m : _} (row : Row_of-Tree m) → RowHasNoChoice row → NoneHasChoice (row_pruned keep row)
    row-single end_of-Tree h = tt
    row-single (more_of-Tree t ts) (h, others) = (pruned-single t h, row-single ts others)

    row-count : {m : _} (row : Row_of-Tree m) → length (row_pruned keep row) ≡ row_length row
    row-count end_of-Tree = refl
    row-count (more_of-Tree t ts) = let e = row-count ts in omega arith
