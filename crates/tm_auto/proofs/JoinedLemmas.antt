-- The joined ones among the loose words of a tree are its words.
use Rattle.std.proofs.Common.{◌≡◌, ℕ, zero, suc, ◌+◌, ◌<◌, inl, inr, Bool, [], ◌∷◌, ◌++◌, map, refl, sym, ap, ◌∙◌, subst, arith, ◌↔◌}
use Rattle.std.specs.List.{range_with_len}
use Rattle.tm_base.specs.declared.cell.Cell.{Cell}
use Rattle.tm_base.specs.declared.cell.Cell.TheVariants.{Byte, Uninit, Ptr}
use Rattle.tm_base.specs.declared.tree.Tree.{Tree, Row_of-Tree, end_of-Tree, more_of-Tree, Never, Range, Pad, Ref, Seq', Alt', Repeat', Private'}
use Rattle.tm_base.specs.Cells.{Word, IsFree, Times, pointer_of}
use Rattle.tm_base.specs.Shapes.{HasNoPrivate, RowHasNoPrivate}
use Rattle.tm_base.specs.Trees.{TreeWord, RowInTurn, RowOneOf, RowTimes}
use Rattle.tm_auto.specs.Joined.{Follows, JoinedAfter, IsJoined}
use Rattle.tm_auto.specs.Loose.{LooseBytes, LooseWord, RowLooseInTurn, RowLooseOneOf, RowLooseTimes}

-- the cell is no later byte of a reference
abbrev pub IsFirst : Cell → Type 0
IsFirst (Byte b) = Unit {0}
IsFirst Uninit = Unit {0}
IsFirst (Ptr r zero) = Unit {0}
IsFirst (Ptr r (suc k)) = ⊥

-- the list doesn't begin with one
abbrev pub BeginsPlain : Word → Type 0
BeginsPlain [] = Unit {0}
BeginsPlain (c ∷ w) = IsFirst c

first_follows : (c p : Cell) → IsFirst c → Follows p c
first_follows (Byte b) p h = tt
first_follows Uninit p h = tt
first_follows (Ptr r zero) p h = tt
first_follows (Ptr r (suc k)) p h = absurd h

joined_any : (p q : Cell) (w : Word) → BeginsPlain w → JoinedAfter p w → JoinedAfter q w
joined_any p q [] h j = tt
joined_any p q (c ∷ w) h j = (first_follows c q h, j.1)

pub joined_left : (p : Cell) (v w : Word) → JoinedAfter p (v ++ w) → JoinedAfter p v
joined_left p [] w j = tt
joined_left p (c ∷ v) w (f, j) = (f, joined_left c v w j)

joined_right : (p q : Cell) (v w : Word) → BeginsPlain w → JoinedAfter p (v ++ w) → JoinedAfter q w
joined_right p q [] w h j = joined_any p q w h j
joined_right p q (c ∷ v) w h (f, j) = joined_right c q v w h j

joined_both : (p : Cell) (v w : Word) → JoinedAfter p v → ((q : Cell) → JoinedAfter q w) → JoinedAfter p (v ++ w)
joined_both p [] w j k = k p
joined_both p (c ∷ v) w (f, j) k = (f, joined_both c v w j k)

plain-append : (v w : Word) → BeginsPlain v → BeginsPlain w → BeginsPlain (v ++ w)
plain-append [] w h j = j
plain-append (c ∷ v) w h j = h

free_plain : (c : Cell) → IsFree c → IsFirst c
free_plain (Byte b) h = tt
free_plain Uninit h = tt
free_plain (Ptr r k) h = absurd h

abbrev reference_of : Cell → ℕ
reference_of (Byte b) = 0
reference_of Uninit = 0
reference_of (Ptr r k) = r.0

-- the bytes of one reference, so many from a place on
abbrev pub bytes_of : ℕ → ℕ → ℕ → Word
bytes_of x k zero = []
bytes_of x k (suc n) = Ptr (record { 0 = x }) k ∷ bytes_of x (suc k) n

bytes_map : (x k n : ℕ) → bytes_of x k n ≡ map (λ k. Ptr (record { 0 = x }) k) (range_with_len k n)
bytes_map x k zero = refl
bytes_map x k (suc n) =
    let next : suc k ≡ k + 1 = omega arith in
    ap (λ (z : Word). Ptr (record { 0 = x }) k ∷ z) (subst (λ (z : ℕ). bytes_of x (suc k) n ≡ map (λ k. Ptr (record { 0 = x }) k) (range_with_len z n)) next (bytes_map x (suc k) n))

pub pointer_is : (n x : ℕ) → bytes_of x 0 n ≡ pointer_of n x
pointer_is n x = bytes_map x 0 n

bytes_joined : (x k n : ℕ) → JoinedAfter (Ptr (record { 0 = x }) k) (bytes_of x (suc k) n)
bytes_joined x k zero = tt
bytes_joined x k (suc n) = (refl, bytes_joined x (suc k) n)

pointer_joined : (n x : ℕ) (p : Cell) → JoinedAfter p (pointer_of n x)
pointer_joined n x p = subst (λ (w : Word). JoinedAfter p w) (pointer_is n x) (first n)
  where
    first : (n : ℕ) → JoinedAfter p (bytes_of x 0 n)
    first zero = tt
    first (suc n) = (tt, bytes_joined x 0 n)

module _ (pointer : ℕ) (A : ℕ → ℕ → Type 0) where
  times_plain : (n : ℕ) (P : Word → Type 0) → ((w : Word) → P w → BeginsPlain w) → (w : Word) → Times n P w → BeginsPlain w
  times_plain zero P f w e = rw e tt
  times_plain (suc n) P f w (u, v, e, a, b) = rw e (plain-append u v (f u a) (times_plain n P f v b))

  bytes_plain : (t k n : ℕ) (w : Word) → IsFirst (Ptr (record { 0 = t }) k) → LooseBytes A t k n w → BeginsPlain w
  bytes_plain t zero zero w f e = rw e tt
  bytes_plain t zero (suc n) w f (x, v, a, e, more) = rw e tt
  bytes_plain t (suc k) n w f h = absurd f

  mutual
    unfolding LooseWord

    loose_plain : (t : Tree) (w : Word) → LooseWord pointer A t w → BeginsPlain w
    loose_plain Never w h = absurd h
    loose_plain (Range low high) w (x, lo, hi, e) = rw e tt
    loose_plain Pad w (c, free, e) = rw e (free_plain c free)
    loose_plain (Ref t) w h = bytes_plain t.0 0 pointer w tt h
    loose_plain (Seq' s ts) w h = row_plain ts w h
    loose_plain (Alt' s ts) w h = some_plain ts w h
    loose_plain (Repeat' n s ts) w h = repeat_plain n ts w h
    loose_plain (Private' s ts) w h = absurd h

    row_plain : {m : _} (ts : Row_of-Tree m) (w : Word) → RowLooseInTurn pointer A ts w → BeginsPlain w
    row_plain end_of-Tree w e = rw e tt
    row_plain (more_of-Tree t ts) w (u, v, e, a, b) = rw e (plain-append u v (loose_plain t u a) (row_plain ts v b))

    some_plain : {m : _} (ts : Row_of-Tree m) (w : Word) → RowLooseOneOf pointer A ts w → BeginsPlain w
    some_plain end_of-Tree w h = absurd h
    some_plain (more_of-Tree t ts) w (inl h) = loose_plain t w h
    some_plain (more_of-Tree t ts) w (inr h) = some_plain ts w h

    repeat_plain : {m : _} (n : ℕ) (ts : Row_of-Tree m) (w : Word) → RowLooseTimes pointer A n ts w → BeginsPlain w
    repeat_plain n end_of-Tree w h = absurd h
    repeat_plain n (more_of-Tree t ts) w h = times_plain n (LooseWord pointer A t) (λ v. loose_plain t v) w h

  bytes_are : (t x k n : ℕ) (w : Word) → LooseBytes A t (suc k) n w → JoinedAfter (Ptr (record { 0 = x }) k) w → w ≡ bytes_of x (suc k) n
  bytes_are t x k zero w e j = e
  bytes_are t x k (suc n) w (y, v, a, e, more) j =
      let j2 = rw e at j in
      let xy : x ≡ y = ap reference_of j2.0 in
      let more2 = bytes_are t y (suc k) n v more j2.1 in
      e ∙ subst (λ z. Ptr (record { 0 = y }) (suc k) ∷ v ≡ bytes_of z (suc k) (suc n)) (sym xy) (ap (λ w. Ptr (record { 0 = y }) (suc k) ∷ w) more2)

  pub loose_bytes : (t x : ℕ) → A x t → (k n : ℕ) → LooseBytes A t k n (bytes_of x k n)
  loose_bytes t x a k zero = refl
  loose_bytes t x a k (suc n) = (x, bytes_of x (suc k) n, a, refl, loose_bytes t x a (suc k) n)

  module _ (keep : Bool) where
    ref_tight : (t n : ℕ) → 0 < n → (w : Word) (p : Cell) → LooseBytes A t 0 n w → JoinedAfter p w → (x : ℕ) × A x t × (w ≡ pointer_of n x)
    ref_tight t zero some w p h j = absurd (omega arith)
    ref_tight t (suc n) some w p (x, v, a, e, more) j = (x, a, e ∙ ap (λ z. Ptr (record { 0 = x }) 0 ∷ z) (bytes_are t x 0 n v more (rw e at j).1) ∙ pointer_is (suc n) x)

    times_tight : (n : ℕ) (P Q : Word → Type 0) → ((w : Word) → P w → BeginsPlain w) → ((w : Word) (p : Cell) → P w → JoinedAfter p w → Q w) → (w : Word) (p : Cell) → Times n P w → JoinedAfter p w → Times n Q w
    times_tight zero P Q f g w p e j = e
    times_tight (suc n) P Q f g w p (u, v, e, a, b) j =
        let j2 = rw e at j in
        (u, v, e, g u p a (joined_left p u v j2), times_tight n P Q f g v Uninit b (joined_right p Uninit u v (times_plain n P f v b) j2))

    module _ (some : 0 < pointer) where
      mutual
        unfolding LooseWord TreeWord

        tight : (t : Tree) (w : Word) (p : Cell) → LooseWord pointer A t w → JoinedAfter p w → TreeWord pointer A keep t w
        tight Never w p h j = h
        tight (Range low high) w p h j = h
        tight Pad w p h j = h
        tight (Ref t) w p h j = ref_tight t.0 pointer some w p h j
        tight (Seq' s ts) w p h j = row_tight ts w p h j
        tight (Alt' s ts) w p h j = some_tight ts w p h j
        tight (Repeat' n s ts) w p h j = repeat_tight n ts w p h j
        tight (Private' s ts) w p h j = absurd h

        row_tight : {m : _} (ts : Row_of-Tree m) (w : Word) (p : Cell) → RowLooseInTurn pointer A ts w → JoinedAfter p w → RowInTurn pointer A keep ts w
        row_tight end_of-Tree w p e j = e
        row_tight (more_of-Tree t ts) w p (u, v, e, a, b) j =
            let j2 = rw e at j in
            (u, v, e, tight t u p a (joined_left p u v j2), row_tight ts v Uninit b (joined_right p Uninit u v (row_plain ts v b) j2))

        some_tight : {m : _} (ts : Row_of-Tree m) (w : Word) (p : Cell) → RowLooseOneOf pointer A ts w → JoinedAfter p w → RowOneOf pointer A keep ts w
        some_tight end_of-Tree w p h j = h
        some_tight (more_of-Tree t ts) w p (inl h) j = inl (tight t w p h j)
        some_tight (more_of-Tree t ts) w p (inr h) j = inr (some_tight ts w p h j)

        repeat_tight : {m : _} (n : ℕ) (ts : Row_of-Tree m) (w : Word) (p : Cell) → RowLooseTimes pointer A n ts w → JoinedAfter p w → RowTimes pointer A keep n ts w
        repeat_tight n end_of-Tree w p h j = h
        repeat_tight n (more_of-Tree t ts) w p h j = times_tight n (LooseWord pointer A t) (TreeWord pointer A keep t) (λ v. loose_plain t v) (λ v q. tight t v q) w p h j

    -- loose, and joined after any cell
    abbrev IsBoth : (Word → Type 0) → Word → Type 0
    IsBoth L w = L w × ((p : Cell) → JoinedAfter p w)

    times_loosen : (n : ℕ) (P Q : Word → Type 0) → ((w : Word) → P w → IsBoth Q w) → (w : Word) → Times n P w → IsBoth (Times n Q) w
    times_loosen zero P Q g w e = (e, λ p. rw e tt)
    times_loosen (suc n) P Q g w (u, v, e, a, b) =
        let (x, j) = g u a in
        let (y, k) = times_loosen n P Q g v b in
        ((u, v, e, x, y), λ p. rw e (joined_both p u v (j p) k))

    mutual
      unfolding LooseWord TreeWord HasNoPrivate

      loosen : (t : Tree) → HasNoPrivate t → (w : Word) → TreeWord pointer A keep t w → IsBoth (LooseWord pointer A t) w
      loosen Never g w h = absurd h
      loosen (Range low high) g w (x, lo, hi, e) = ((x, lo, hi, e), λ p. rw e (tt, tt))
      loosen Pad g w (c, free, e) = ((c, free, e), λ p. rw e (first_follows c p (free_plain c free), tt))
      loosen (Ref t) g w (x, a, e) = (subst (λ (z : Word). LooseBytes A t.0 0 pointer z) (pointer_is pointer x ∙ sym e) (loose_bytes t.0 x a 0 pointer), λ p. rw e (pointer_joined pointer x p))
      loosen (Seq' s ts) g w h = row_loosen ts g w h
      loosen (Alt' s ts) g w h = some_loosen ts g w h
      loosen (Repeat' n s ts) g w h = repeat_loosen n ts g w h
      loosen (Private' s ts) g w h = absurd g

      row_loosen : {m : _} (ts : Row_of-Tree m) → RowHasNoPrivate ts → (w : Word) → RowInTurn pointer A keep ts w → IsBoth (RowLooseInTurn pointer A ts) w
      row_loosen end_of-Tree g w e = (e, λ p. rw e tt)
      row_loosen (more_of-Tree t ts) g w (u, v, e, a, b) =
          let (x, j) = loosen t g.0 u a in
          let (y, k) = row_loosen ts g.1 v b in
          ((u, v, e, x, y), λ p. rw e (joined_both p u v (j p) k))

      some_loosen : {m : _} (ts : Row_of-Tree m) → RowHasNoPrivate ts → (w : Word) → RowOneOf pointer A keep ts w → IsBoth (RowLooseOneOf pointer A ts) w
      some_loosen end_of-Tree g w h = absurd h
      some_loosen (more_of-Tree t ts) g w (inl h) = let (x, j) = loosen t g.0 w h in (inl x, j)
      some_loosen (more_of-Tree t ts) g w (inr h) = let (x, j) = some_loosen ts g.1 w h in (inr x, j)

      repeat_loosen : {m : _} (n : ℕ) (ts : Row_of-Tree m) → RowHasNoPrivate ts → (w : Word) → RowTimes pointer A keep n ts w → IsBoth (RowLooseTimes pointer A n ts) w
      repeat_loosen n end_of-Tree g w h = absurd h
      repeat_loosen n (more_of-Tree t ts) g w h = times_loosen n (TreeWord pointer A keep t) (LooseWord pointer A t) (λ v. loosen t g.0 v) w h

    pub words_are : 0 < pointer → (t : Tree) → HasNoPrivate t → (w : Word) → TreeWord pointer A keep t w ↔ (IsJoined w × LooseWord pointer A t w)
    words_are some t g w = (λ h. let (x, j) = loosen t g w h in (j Uninit, x), λ (j, x). tight some t w Uninit x j)
