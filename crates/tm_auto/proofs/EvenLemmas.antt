-- Where the words of a tree have one size, so have its loose words.
use Rattle.std.proofs.Common.{◌≡◌, ℕ, zero, suc, inl, inr, true, ◌++◌, length, refl, sym, ap, ◌∙◌, arith, length-append}
use Rattle.tm_base.specs.declared.tree.Tree.{Tree, Row_of-Tree, end_of-Tree, more_of-Tree, Never, Range, Pad, Ref, Seq', Alt', Repeat', Private'}
use Rattle.tm_base.specs.Cells.{Word, Times, pointer_of}
use Rattle.tm_base.specs.Shapes.{HasSize}
use Rattle.tm_base.specs.Transmutes.{holds}
use Rattle.tm_base.specs.Trees.{TreeWord, RowInTurn, RowOneOf, RowTimes}
use Rattle.tm_auto.specs.Builds.{AreEven, any}
use Rattle.tm_auto.specs.Loose.{LooseBytes, LooseWord, RowLooseInTurn, RowLooseOneOf, RowLooseTimes}
use Rattle.tm_base.proofs.CellLemmas.{length-pointer_of}

-- some word of P is as long
abbrev AsLong : (Word → Type 0) → Word → Type 0
AsLong P w = (v : Word) × (length v ≡ length w) × P v

bytes_length : (A : ℕ → ℕ → Type 0) (t k n : ℕ) (w : Word) → LooseBytes A t k n w → length w ≡ n
bytes_length A t k zero w e = ap length e
bytes_length A t k (suc n) w (x, v, a, e, more) = let l = bytes_length A t (suc k) n v more in let m = ap length e in omega arith

both_long : (P Q : Word → Type 0) (w u v : Word) → w ≡ u ++ v → AsLong P u → AsLong Q v → AsLong (λ w. (u : Word) × (v : Word) × (w ≡ u ++ v) × P u × Q v) w
both_long P Q w u v e (x, lx, p) (y, ly, q) = (x ++ y, (let a = length-append x y in let b = length-append u v in let c = ap length e in omega arith), (x, y, refl, p, q))

module _ (pointer : ℕ) where
  times_long : (n : ℕ) (P Q : Word → Type 0) → ((w : Word) → P w → AsLong Q w) → (w : Word) → Times n P w → AsLong (Times n Q) w
  times_long zero P Q f w e = (w, refl, e)
  times_long (suc n) P Q f w (u, v, e, a, b) = both_long Q (Times n Q) w u v e (f u a) (times_long n P Q f v b)

  mutual
    unfolding LooseWord TreeWord

    tree_long : (t : Tree) (w : Word) → LooseWord pointer (holds any) t w → AsLong (TreeWord pointer (holds any) true t) w
    tree_long Never w h = absurd h
    tree_long (Range low high) w h = (w, refl, h)
    tree_long Pad w h = (w, refl, h)
    tree_long (Ref t) w h = (pointer_of pointer t.0, length-pointer_of pointer t.0 ∙ sym (bytes_length (holds any) t.0 0 pointer w h), (t.0, refl, refl))
    tree_long (Seq' s ts) w h = turn_long ts w h
    tree_long (Alt' s ts) w h = one_long ts w h
    tree_long (Repeat' n s ts) w h = repeat_long n ts w h
    tree_long (Private' s ts) w h = absurd h

    turn_long : {m : _} (ts : Row_of-Tree m) (w : Word) → RowLooseInTurn pointer (holds any) ts w → AsLong (RowInTurn pointer (holds any) true ts) w
    turn_long end_of-Tree w h = (w, refl, h)
    turn_long (more_of-Tree t ts) w (u, v, e, a, b) = both_long (TreeWord pointer (holds any) true t) (RowInTurn pointer (holds any) true ts) w u v e (tree_long t u a) (turn_long ts v b)

    one_long : {m : _} (ts : Row_of-Tree m) (w : Word) → RowLooseOneOf pointer (holds any) ts w → AsLong (RowOneOf pointer (holds any) true ts) w
    one_long end_of-Tree w h = absurd h
    one_long (more_of-Tree t ts) w (inl h) = let (v, l, p) = tree_long t w h in (v, l, inl p)
    one_long (more_of-Tree t ts) w (inr h) = let (v, l, p) = one_long ts w h in (v, l, inr p)

    repeat_long : {m : _} (n : ℕ) (ts : Row_of-Tree m) (w : Word) → RowLooseTimes pointer (holds any) n ts w → AsLong (RowTimes pointer (holds any) true n ts) w
    repeat_long n end_of-Tree w h = absurd h
    repeat_long n (more_of-Tree t ts) w h = times_long n (LooseWord pointer (holds any) t) (TreeWord pointer (holds any) true t) (λ v. tree_long t v) w h

  pub sized_even : (size : ℕ) (t : Tree) → HasSize pointer size t → AreEven (LooseWord pointer (holds any) t)
  sized_even size t sized = (size, λ w h. let (v, l, p) = tree_long t w h in sym l ∙ sized any v p)
