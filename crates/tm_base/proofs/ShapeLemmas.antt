-- Private parts, alternatives, leaves and the size of words, at each kind of tree.
use Rattle.std.proofs.Common.{◌≡◌, ℕ, zero, suc, ◌+◌, ◌*◌, ◌≤◌, true, List, [], ◌∷◌, length, ◌∙◌, sym, ap, subst, refl, arith, length-append, inl, inr, ◌↔◌}
use Rattle.tm_base.specs.declared.tree.Tree.{Tree, Row_of-Tree, end_of-Tree, more_of-Tree, items-the_row-Tree, items_hidden-the_row-Tree-0, Never, Range, Pad, Ref, Seq, Alt, Repeat, Private}
use Rattle.tm_base.specs.declared.tree.Tree.TheBlock.{hidden-the_row-Tree-0, shape-the_row-Tree-1, hidden-the_row-Tree-1}
use Rattle.tm_base.specs.declared.cell.RefId.{RefId}
use Rattle.tm_base.specs.Cells.{Word, Times}
use Rattle.tm_base.specs.Shapes.{leaves_of, row_leaves, all_leaves, row_length, HasNoPrivate, RowHasNoPrivate, NonePrivate, HasNoChoice, RowHasNoChoice, NoneHasChoice, HasSize}
use Rattle.tm_base.specs.Transmutes.{holds}
use Rattle.tm_base.specs.Trees.{TreeWord}
use Rattle.tm_base.proofs.CellLemmas.{length-pointer_of}
use Rattle.tm_base.proofs.TreeLemmas.{TreeWord-Seq, TreeWord-Alt, TreeWord-Repeat}

-- ---- private parts

private-row : {n : _} (row : Row_of-Tree n) → RowHasNoPrivate row ↔ NonePrivate (items-the_row-Tree n row)
unfolding HasNoPrivate
private-row end_of-Tree = (λ h. h, λ h. h)
private-row (more_of-Tree t ts) = let both = private-row ts in (λ h. (h.0, both.0 h.1), λ h. (h.0, both.1 h.1))

pub HasNoPrivate-Seq : (ts : List Tree) → HasNoPrivate (Seq ts) ↔ NonePrivate ts
unfolding HasNoPrivate
HasNoPrivate-Seq ts =
    let e = items_hidden-the_row-Tree-0 ts in
    let both = private-row (hidden-the_row-Tree-0 ts) in
    (λ h. subst NonePrivate e (both.0 h), λ h. both.1 (subst NonePrivate (sym e) h))

pub HasNoPrivate-Alt : (ts : List Tree) → HasNoPrivate (Alt ts) ↔ NonePrivate ts
unfolding HasNoPrivate
HasNoPrivate-Alt ts =
    let e = items_hidden-the_row-Tree-0 ts in
    let both = private-row (hidden-the_row-Tree-0 ts) in
    (λ h. subst NonePrivate e (both.0 h), λ h. both.1 (subst NonePrivate (sym e) h))

pub HasNoPrivate-Repeat : (n : ℕ) (t : Tree) → HasNoPrivate (Repeat n t) ↔ HasNoPrivate t
unfolding HasNoPrivate shape-the_row-Tree-1 hidden-the_row-Tree-1 denote.Hole.Carrier.hidden
HasNoPrivate-Repeat n t = (λ h. h.0, λ h. (h, tt))

pub HasNoPrivate-Private : (t : Tree) → HasNoPrivate (Private t) → ⊥
unfolding HasNoPrivate
HasNoPrivate-Private t h = h

-- ---- alternatives

alternative-row : {n : _} (row : Row_of-Tree n) → RowHasNoChoice row ↔ NoneHasChoice (items-the_row-Tree n row)
unfolding HasNoChoice
alternative-row end_of-Tree = (λ h. h, λ h. h)
alternative-row (more_of-Tree t ts) = let both = alternative-row ts in (λ h. (h.0, both.0 h.1), λ h. (h.0, both.1 h.1))

length-row : {n : _} (row : Row_of-Tree n) → row_length row ≡ length (items-the_row-Tree n row)
length-row end_of-Tree = refl
length-row (more_of-Tree t ts) = let e = length-row ts in omega arith

pub HasNoChoice-Seq : (ts : List Tree) → HasNoChoice (Seq ts) ↔ NoneHasChoice ts
unfolding HasNoChoice
HasNoChoice-Seq ts =
    let e = items_hidden-the_row-Tree-0 ts in
    let both = alternative-row (hidden-the_row-Tree-0 ts) in
    (λ h. subst NoneHasChoice e (both.0 h), λ h. both.1 (subst NoneHasChoice (sym e) h))

pub HasNoChoice-Alt : (ts : List Tree) → HasNoChoice (Alt ts) ↔ ((length ts ≤ 1) × NoneHasChoice ts)
unfolding HasNoChoice
HasNoChoice-Alt ts =
    let e = items_hidden-the_row-Tree-0 ts in
    let both = alternative-row (hidden-the_row-Tree-0 ts) in
    let n : row_length (hidden-the_row-Tree-0 ts) ≡ length ts = length-row (hidden-the_row-Tree-0 ts) ∙ ap length e in
    (λ h. (subst (λ k. k ≤ 1) n h.0, subst NoneHasChoice e (both.0 h.1)), λ h. (subst (λ k. k ≤ 1) (sym n) h.0, both.1 (subst NoneHasChoice (sym e) h.1)))

pub HasNoChoice-Repeat : (n : ℕ) (t : Tree) → HasNoChoice (Repeat n t) ↔ HasNoChoice t
unfolding HasNoChoice shape-the_row-Tree-1 hidden-the_row-Tree-1 denote.Hole.Carrier.hidden
HasNoChoice-Repeat n t = (λ h. h.0, λ h. (h, tt))

-- ---- leaves

leaves-row : (pointer : ℕ) {n : _} (row : Row_of-Tree n) → row_leaves pointer row ≡ all_leaves pointer (items-the_row-Tree n row)
unfolding leaves_of
leaves-row pointer end_of-Tree = refl
leaves-row pointer (more_of-Tree t ts) = ap (λ n. leaves_of pointer t + n) (leaves-row pointer ts)

pub leaves_of-Seq : (pointer : ℕ) (ts : List Tree) → leaves_of pointer (Seq ts) ≡ all_leaves pointer ts
unfolding leaves_of
leaves_of-Seq pointer ts = leaves-row pointer (hidden-the_row-Tree-0 ts) ∙ ap (all_leaves pointer) (items_hidden-the_row-Tree-0 ts)

pub leaves_of-Alt : (pointer : ℕ) (ts : List Tree) → leaves_of pointer (Alt ts) ≡ all_leaves pointer ts
unfolding leaves_of
leaves_of-Alt pointer ts = leaves-row pointer (hidden-the_row-Tree-0 ts) ∙ ap (all_leaves pointer) (items_hidden-the_row-Tree-0 ts)

times_one : (n m : ℕ) → n * (m + 0) ≡ n * m
times_one n m = let e : m + 0 ≡ m = omega arith in ap (λ k. n * k) e

pub leaves_of-Repeat : (pointer n : ℕ) (t : Tree) → leaves_of pointer (Repeat n t) ≡ n * leaves_of pointer t
unfolding leaves_of shape-the_row-Tree-1 hidden-the_row-Tree-1 denote.Hole.Carrier.hidden
leaves_of-Repeat pointer n t = times_one n (leaves_of pointer t)

-- ---- sizes of words

pub HasSize-Never : (pointer n : ℕ) → HasSize pointer n Never
unfolding TreeWord
HasSize-Never pointer n A w h = absurd h

pub HasSize-Range : (pointer low high : ℕ) → HasSize pointer 1 (Range low high)
unfolding TreeWord
HasSize-Range pointer low high A w (b, lo, hi, e) = ap length e

pub HasSize-Pad : (pointer : ℕ) → HasSize pointer 1 Pad
unfolding TreeWord
HasSize-Pad pointer A w (c, free, e) = ap length e

pub HasSize-Ref : (pointer : ℕ) (t : RefId) → HasSize pointer pointer (Ref t)
unfolding TreeWord
HasSize-Ref pointer t A w (x, a, e) = ap length e ∙ length-pointer_of pointer x

pub HasSize-Seq-none : (pointer : ℕ) → HasSize pointer 0 (Seq [])
HasSize-Seq-none pointer A w h = ap length ((TreeWord-Seq pointer (holds A) true [] w).0 h)

pub HasSize-Seq-more : (pointer m n : ℕ) (t : Tree) (ts : List Tree) → HasSize pointer m t → HasSize pointer n (Seq ts) → HasSize pointer (m + n) (Seq (t ∷ ts))
HasSize-Seq-more pointer m n t ts first rest A w h =
    let (u, v, e, p, q) = (TreeWord-Seq pointer (holds A) true (t ∷ ts) w).0 h in
    let x = first A u p in
    let y = rest A v ((TreeWord-Seq pointer (holds A) true ts v).1 q) in
    let z = ap length e in
    omega (arith, length-append u v)

pub HasSize-Alt-none : (pointer n : ℕ) → HasSize pointer n (Alt [])
HasSize-Alt-none pointer n A w h = absurd ((TreeWord-Alt pointer (holds A) true [] w).0 h)

pub HasSize-Alt-more : (pointer n : ℕ) (t : Tree) (ts : List Tree) → HasSize pointer n t → HasSize pointer n (Alt ts) → HasSize pointer n (Alt (t ∷ ts))
HasSize-Alt-more pointer n t ts first rest A w h = elim ((TreeWord-Alt pointer (holds A) true (t ∷ ts) w).0 h) [
  | inl p ↦ first A w p
  | inr q ↦ rest A w ((TreeWord-Alt pointer (holds A) true ts w).1 q)
]

length-Times : (P : Word → Type 0) (m n : ℕ) → ((w : Word) → P w → length w ≡ m) → (w : Word) → Times n P w → length w ≡ n * m
length-Times P m zero f w e = let x = ap length e in omega arith
length-Times P m (suc n) f w (u, v, e, p, q) =
    let x = f u p in
    let y = length-Times P m n f v q in
    let z = ap length e in
    let s : suc n * m ≡ m + n * m = grind arith in
    omega (arith, length-append u v)

pub HasSize-Repeat : (pointer m n : ℕ) (t : Tree) → HasSize pointer m t → HasSize pointer (n * m) (Repeat n t)
HasSize-Repeat pointer m n t each A w h = length-Times (TreeWord pointer (holds A) true t) m n (each A) w ((TreeWord-Repeat pointer (holds A) true n t w).0 h)
