-- In the words of a tree references stand whole.
use Rattle.std.proofs.Common.{◌≡◌, ℕ, zero, suc, ◌+◌, subst, inl, inr, Bool, [], ◌∷◌, ◌++◌, refl, ap, arith}
use Rattle.tm_base.specs.declared.cell.Cell.{Cell}
use Rattle.tm_base.specs.declared.cell.Cell.TheVariants.{Byte, Uninit, Ptr}
use Rattle.tm_base.specs.declared.tree.Tree.{Tree, Row_of-Tree, end_of-Tree, more_of-Tree, Never, Range, Pad, Ref, Seq', Alt', Repeat', Private'}
use Rattle.tm_base.specs.Cells.{Word, IsFree, Times, pointer_of}
use Rattle.tm_base.specs.Trees.{TreeWord, RowInTurn, RowOneOf, RowTimes}
use Rattle.tm_auto.specs.Joined.{GoesOn, IsUnbroken}
use Rattle.tm_auto.proofs.JoinedLemmas.{bytes_of, pointer_is}

module _ (pointer : ℕ) where
  goes_on-append : (c : Cell) (v w : Word) → GoesOn pointer c v → GoesOn pointer c (v ++ w)
  goes_on-append (Byte b) v w h = tt
  goes_on-append Uninit v w h = tt
  goes_on-append (Ptr r k) v w h = λ l. let (u, e) = h l in (u ++ w, ap (λ (z : Word). z ++ w) e)

  whole-append : (v w : Word) → IsUnbroken pointer v → IsUnbroken pointer w → IsUnbroken pointer (v ++ w)
  whole-append [] w h k = k
  whole-append (c ∷ v) w (g, h) k = (goes_on-append c v w g, whole-append v w h k)

  bytes_whole : (x k n : ℕ) → k + n ≡ pointer → IsUnbroken pointer (bytes_of x k n)
  bytes_whole x k zero e = tt
  bytes_whole x k (suc zero) e = (λ l. absurd (omega arith), tt)
  bytes_whole x k (suc (suc n)) e = (λ l. (_, refl), bytes_whole x (suc k) (suc n) (omega arith))

  pointer_whole : (x : ℕ) → IsUnbroken pointer (pointer_of pointer x)
  pointer_whole x = subst (λ (w : Word). IsUnbroken pointer w) (pointer_is pointer x) (bytes_whole x 0 pointer (omega arith))

  free_whole : (c : Cell) → IsFree c → IsUnbroken pointer (c ∷ [])
  free_whole (Byte b) h = (tt, tt)
  free_whole Uninit h = (tt, tt)
  free_whole (Ptr r k) h = absurd h

  module _ (A : ℕ → ℕ → Type 0) (keep : Bool) where
    times_whole : (n : ℕ) (P : Word → Type 0) → ((w : Word) → P w → IsUnbroken pointer w) → (w : Word) → Times n P w → IsUnbroken pointer w
    times_whole zero P f w e = rw e tt
    times_whole (suc n) P f w (u, v, e, a, b) = rw e (whole-append u v (f u a) (times_whole n P f v b))

    mutual
      unfolding TreeWord

      pub tree_whole : (t : Tree) (w : Word) → TreeWord pointer A keep t w → IsUnbroken pointer w
      tree_whole Never w h = absurd h
      tree_whole (Range low high) w (x, lo, hi, e) = rw e (tt, tt)
      tree_whole Pad w (c, free, e) = rw e (free_whole c free)
      tree_whole (Ref t) w (x, a, e) = rw e (pointer_whole x)
      tree_whole (Seq' s ts) w h = row_whole ts w h
      tree_whole (Alt' s ts) w h = some_whole ts w h
      tree_whole (Repeat' n s ts) w h = repeat_whole n ts w h
      tree_whole (Private' s ts) w (k, h) = some_whole ts w h

      row_whole : {m : _} (ts : Row_of-Tree m) (w : Word) → RowInTurn pointer A keep ts w → IsUnbroken pointer w
      row_whole end_of-Tree w e = rw e tt
      row_whole (more_of-Tree t ts) w (u, v, e, a, b) = rw e (whole-append u v (tree_whole t u a) (row_whole ts v b))

      some_whole : {m : _} (ts : Row_of-Tree m) (w : Word) → RowOneOf pointer A keep ts w → IsUnbroken pointer w
      some_whole end_of-Tree w h = absurd h
      some_whole (more_of-Tree t ts) w (inl h) = tree_whole t w h
      some_whole (more_of-Tree t ts) w (inr h) = some_whole ts w h

      repeat_whole : {m : _} (n : ℕ) (ts : Row_of-Tree m) (w : Word) → RowTimes pointer A keep n ts w → IsUnbroken pointer w
      repeat_whole n end_of-Tree w h = absurd h
      repeat_whole n (more_of-Tree t ts) w h = times_whole n (TreeWord pointer A keep t) (λ v. tree_whole t v) w h
