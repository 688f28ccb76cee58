-- What the extent of a tree tells of its words.
use Rattle.std.proofs.Common.{◌≡◌, ◌≢◌, ℕ, zero, suc, ◌-◌, ◌<◌, ◌≤◌, inl, inr, Bool, true, false, cond, nat_le, List, [], ◌∷◌, ◌++◌, length, get_or, refl, sym, subst, arith, append-nil, length-append}
use Rattle.std.specs.Prelude.{◌==◌}
use Rattle.std.proofs.lemmas.Bool.{ne_eqb}
use Rattle.tm_base.specs.declared.cell.Cell.{Cell}
use Rattle.tm_base.specs.declared.cell.Cell.TheVariants.{Byte, Uninit, Ptr}
use Rattle.tm_base.specs.declared.tree.Tree.{Tree, Row_of-Tree, end_of-Tree, more_of-Tree, Never, Range, Pad, Ref, Seq', Alt', Repeat', Private'}
use Rattle.tm_base.specs.Cells.{Word, Times}
use Rattle.tm_base.specs.Transmutes.{holds}
use Rattle.tm_auto.specs.declared.extent.Extent.{Extent}
use Rattle.tm_auto.specs.declared.extent.Extent.TheVariants.{Dead, Empty, Long}
use Rattle.tm_auto.specs.Builds.{Words, any, AreEven}
use Rattle.tm_auto.specs.Loose.{LooseBytes, LooseWord, RowLooseInTurn, RowLooseOneOf, RowLooseTimes, LooseInTurn, LooseOneOf}
use Rattle.tm_auto.specs.Shapes.{extent_of, row_in_turn, row_one_of, row_times, in_turn, one_of, both_extents, either_extent}
use Rattle.tm_auto.proofs.GrowLemmas.{Both, Either}
use Rattle.tm_auto.proofs.JoinedLemmas.{bytes_of, loose_bytes}

-- no word, the empty one whatever references may hold, or one with cells where they may hold any
abbrev pub IsExtent : Extent → Words → Type 0
IsExtent Dead P = (A : ℕ → ℕ → Bool) (w : Word) → P A w → ⊥
IsExtent Empty P = (A : ℕ → ℕ → Bool) → P A []
IsExtent Long P = (c : Cell) × (w : Word) × P any (c ∷ w)

both_is : (e f : Extent) (P Q : Words) → IsExtent e P → IsExtent f Q → IsExtent (both_extents e f) (Both P Q)
both_is Dead f P Q p q = λ A w (u, v, e, a, b). p A u a
both_is Empty Dead P Q p q = λ A w (u, v, e, a, b). q A v b
both_is Empty Empty P Q p q = λ A. ([], [], refl, p A, q A)
both_is Empty Long P Q p (c, w, h) = (c, w, ([], c ∷ w, refl, p any, h))
both_is Long Dead P Q p q = λ A w (u, v, e, a, b). q A v b
both_is Long Empty P Q (c, w, h) q = (c, w, (c ∷ w, [], sym (append-nil (c ∷ w)), h, q any))
both_is Long Long P Q (c, w, h) (d, v, k) = (c, w ++ (d ∷ v), (c ∷ w, d ∷ v, refl, h, k))

either_is : (e f : Extent) (P Q : Words) → IsExtent e P → IsExtent f Q → IsExtent (either_extent e f) (Either P Q)
either_is Dead Dead P Q p q = λ A w h. elim h [ inl x ↦ p A w x | inr x ↦ q A w x ]
either_is Dead Empty P Q p q = λ A. inr (q A)
either_is Dead Long P Q p (c, w, h) = (c, w, inr h)
either_is Empty f P Q p q = λ A. inl (p A)
either_is Long f P Q (c, w, h) q = (c, w, inl h)

pub some_times : (P : Word → Type 0) (w : Word) → P w → (n : ℕ) → (v : Word) × Times n P v
some_times P w h zero = ([], refl)
some_times P w h (suc n) = let (v, k) = some_times P w h n in (w ++ v, (w, v, refl, h, k))

none_times : (P : Word → Type 0) → P [] → (n : ℕ) → Times n P []
none_times P h zero = refl
none_times P h (suc n) = ([], [], refl, h, none_times P h n)

times_some : (n : ℕ) (e : Extent) (P : Words) → IsExtent e P → IsExtent e (λ A. Times (suc n) (P A))
times_some n Dead P p = λ A w (u, v, e, a, b). p A u a
times_some n Empty P p = λ A. none_times (P A) (p A) (suc n)
times_some n Long P (c, w, h) = let (v, k) = some_times (P any) (c ∷ w) h n in (c, w ++ v, (c ∷ w, v, refl, h, k))

times_is : (n : ℕ) (e : Extent) (P : Words) → IsExtent e P → IsExtent (cond (n == 0) Empty e) (λ A. Times n (P A))
times_is zero e P p = λ A. refl
times_is (suc n) e P p = let more : (suc n == 0) ≡ false = ne_eqb (suc n) 0 (λ q. omega arith) in rw more (times_some n e P p)

le_test : (a b : ℕ) → nat_le a b ≡ true → a ≤ b
le_test a b e = grind arith

le_fails : (a b : ℕ) → nat_le a b ≡ false → b < a
le_fails a b e = grind arith

abbrev RangeWords : ℕ → ℕ → Words
RangeWords low high A w = (b : ℕ) × (low ≤ b) × (b ≤ high) × (w ≡ Byte b ∷ [])

range_is : (low high : ℕ) (b : Bool) → nat_le low high ≡ b → IsExtent (cond b Long Dead) (RangeWords low high)
range_is low high true e = (Byte low, [], (low, omega arith, le_test low high e, refl))
range_is low high false e = λ A w (x, lo, hi, q). let l = le_fails low high e in omega arith

ref_is : (t n : ℕ) → 0 < n → IsExtent Long (λ A. LooseBytes (holds A) t 0 n)
ref_is t zero some = absurd (omega arith)
ref_is t (suc n) some = (Ptr (record { 0 = t }) 0, bytes_of t 1 n, loose_bytes (suc n) (holds any) t t refl 0 (suc n))

module _ (pointer : ℕ) (some : 0 < pointer) where
  mutual
    unfolding extent_of LooseWord

    pub extent_is : (t : Tree) → IsExtent (extent_of t) (λ A. LooseWord pointer (holds A) t)
    extent_is Never = λ A w h. h
    extent_is (Range low high) = range_is low high (nat_le low high) refl
    extent_is Pad = (Uninit, [], (Uninit, tt, refl))
    extent_is (Ref t) = ref_is t.0 pointer some
    extent_is (Seq' s ts) = row_turn_is ts
    extent_is (Alt' s ts) = row_one_is ts
    extent_is (Repeat' n s ts) = row_times_is n ts
    extent_is (Private' s ts) = λ A w h. h

    row_turn_is : {m : _} (ts : Row_of-Tree m) → IsExtent (row_in_turn ts) (λ A. RowLooseInTurn pointer (holds A) ts)
    row_turn_is end_of-Tree = λ A. refl
    row_turn_is (more_of-Tree t ts) = both_is (extent_of t) (row_in_turn ts) (λ A. LooseWord pointer (holds A) t) (λ A. RowLooseInTurn pointer (holds A) ts) (extent_is t) (row_turn_is ts)

    row_one_is : {m : _} (ts : Row_of-Tree m) → IsExtent (row_one_of ts) (λ A. RowLooseOneOf pointer (holds A) ts)
    row_one_is end_of-Tree = λ A w h. h
    row_one_is (more_of-Tree t ts) = either_is (extent_of t) (row_one_of ts) (λ A. LooseWord pointer (holds A) t) (λ A. RowLooseOneOf pointer (holds A) ts) (extent_is t) (row_one_is ts)

    row_times_is : {m : _} (n : ℕ) (ts : Row_of-Tree m) → IsExtent (row_times n ts) (λ A. RowLooseTimes pointer (holds A) n ts)
    row_times_is n end_of-Tree = λ A w h. h
    row_times_is n (more_of-Tree t ts) = times_is n (extent_of t) (λ A. LooseWord pointer (holds A) t) (extent_is t)

  pub turn_is : (ts : List Tree) → IsExtent (in_turn ts) (λ A. LooseInTurn pointer (holds A) ts)
  turn_is [] = λ A. refl
  turn_is (t ∷ ts) = both_is (extent_of t) (in_turn ts) (λ A. LooseWord pointer (holds A) t) (λ A. LooseInTurn pointer (holds A) ts) (extent_is t) (turn_is ts)

  pub one_is : (ts : List Tree) → IsExtent (one_of ts) (λ A. LooseOneOf pointer (holds A) ts)
  one_is [] = λ A w h. h
  one_is (t ∷ ts) = either_is (extent_of t) (one_of ts) (λ A. LooseWord pointer (holds A) t) (λ A. LooseOneOf pointer (holds A) ts) (extent_is t) (one_is ts)

-- what isn't dead has a word
pub has_word : (e : Extent) (P : Words) → e ≢ Dead → IsExtent e P → (w : Word) × P any w
has_word Dead P ne h = absurd (ne refl)
has_word Empty P ne h = ([], h any)
has_word Long P ne (c, w, h) = (c ∷ w, h)

pub both_live : (e f : Extent) → both_extents e f ≢ Dead → (e ≢ Dead) × (f ≢ Dead)
both_live Dead f h = absurd (h refl)
both_live Empty Dead h = absurd (h refl)
both_live Empty Empty h = (λ q. cc, λ q. cc)
both_live Empty Long h = (λ q. cc, λ q. cc)
both_live Long Dead h = absurd (h refl)
both_live Long Empty h = (λ q. cc, λ q. cc)
both_live Long Long h = (λ q. cc, λ q. cc)

-- under a wider test
module _ (pointer : ℕ) (A B : ℕ → ℕ → Type 0) (f : (x t : ℕ) → A x t → B x t) where
  bytes_wider : (t k n : ℕ) (w : Word) → LooseBytes A t k n w → LooseBytes B t k n w
  bytes_wider t k zero w h = h
  bytes_wider t k (suc n) w (x, v, a, e, more) = (x, v, f x t a, e, bytes_wider t (suc k) n v more)

  times_wider : (n : ℕ) (P Q : Word → Type 0) → ((w : Word) → P w → Q w) → (w : Word) → Times n P w → Times n Q w
  times_wider zero P Q g w h = h
  times_wider (suc n) P Q g w (u, v, e, a, b) = (u, v, e, g u a, times_wider n P Q g v b)

  mutual
    unfolding LooseWord

    pub loose_wider : (t : Tree) (w : Word) → LooseWord pointer A t w → LooseWord pointer B t w
    loose_wider Never w h = h
    loose_wider (Range low high) w h = h
    loose_wider Pad w h = h
    loose_wider (Ref t) w h = bytes_wider t.0 0 pointer w h
    loose_wider (Seq' s ts) w h = turn_wider ts w h
    loose_wider (Alt' s ts) w h = one_wider ts w h
    loose_wider (Repeat' n s ts) w h = repeat_wider n ts w h
    loose_wider (Private' s ts) w h = h

    turn_wider : {m : _} (ts : Row_of-Tree m) (w : Word) → RowLooseInTurn pointer A ts w → RowLooseInTurn pointer B ts w
    turn_wider end_of-Tree w h = h
    turn_wider (more_of-Tree t ts) w (u, v, e, a, b) = (u, v, e, loose_wider t u a, turn_wider ts v b)

    one_wider : {m : _} (ts : Row_of-Tree m) (w : Word) → RowLooseOneOf pointer A ts w → RowLooseOneOf pointer B ts w
    one_wider end_of-Tree w h = h
    one_wider (more_of-Tree t ts) w (inl h) = inl (loose_wider t w h)
    one_wider (more_of-Tree t ts) w (inr h) = inr (one_wider ts w h)

    repeat_wider : {m : _} (n : ℕ) (ts : Row_of-Tree m) (w : Word) → RowLooseTimes pointer A n ts w → RowLooseTimes pointer B n ts w
    repeat_wider n end_of-Tree w h = h
    repeat_wider n (more_of-Tree t ts) w h = times_wider n (LooseWord pointer A t) (LooseWord pointer B t) (λ v. loose_wider t v) w h

empty_list : (w : Word) → length w ≡ 0 → w ≡ []
empty_list [] e = refl
empty_list (c ∷ w) e = absurd (omega arith)

-- where words have one size and the empty one is there, it is alone
pub empty_alone : (pointer : ℕ) → 0 < pointer → (t : Tree) → extent_of t ≡ Empty → AreEven (LooseWord pointer (holds any) t) → (A : ℕ → ℕ → Bool) (w : Word) → LooseWord pointer (holds A) t w → w ≡ []
empty_alone pointer some t e (n, even) A w h =
    let none : IsExtent Empty (λ A. LooseWord pointer (holds A) t) = subst (λ (x : Extent). IsExtent x (λ A. LooseWord pointer (holds A) t)) e (extent_is pointer some t) in
    let zero_size = even [] (none any) in
    let size = even w (loose_wider pointer (holds A) (holds any) (λ x u a. refl) t w h) in
    empty_list w (omega arith)

-- ---- parts of what has words of one size

module _ (pointer : ℕ) (some : 0 < pointer) where
  pub live_at : (ts : List Tree) (i : ℕ) (d : Tree) → in_turn ts ≢ Dead → i < length ts → extent_of (get_or ts i d) ≢ Dead
  live_at [] i d h l = absurd (omega arith)
  live_at (t ∷ ts) zero d h l = (both_live (extent_of t) (in_turn ts) h).0
  live_at (t ∷ ts) (suc i) d h l = live_at ts i d (both_live (extent_of t) (in_turn ts) h).1 (omega arith)

  pub even_at : (ts : List Tree) (i : ℕ) (d : Tree) → in_turn ts ≢ Dead → AreEven (LooseInTurn pointer (holds any) ts) → i < length ts → AreEven (LooseWord pointer (holds any) (get_or ts i d))
  even_at [] i d h even l = absurd (omega arith)
  even_at (t ∷ ts) zero d h (n, even) l =
      let (x, y) = both_live (extent_of t) (in_turn ts) h in
      let (v, k) = has_word (in_turn ts) (λ A. LooseInTurn pointer (holds A) ts) y (turn_is pointer some ts) in
      (n - length v, λ u a. let e = even (u ++ v) (u, v, refl, a, k) in let z = length-append u v in omega arith)
  even_at (t ∷ ts) (suc i) d h (n, even) l =
      let (x, y) = both_live (extent_of t) (in_turn ts) h in
      let (u, k) = has_word (extent_of t) (λ A. LooseWord pointer (holds A) t) x (extent_is pointer some t) in
      even_at ts i d y (n - length u, λ v a. let e = even (u ++ v) (u, v, refl, k, a) in let z = length-append u v in omega arith) (omega arith)

  pub even_member : (ts : List Tree) (i : ℕ) (d : Tree) → AreEven (LooseOneOf pointer (holds any) ts) → i < length ts → AreEven (LooseWord pointer (holds any) (get_or ts i d))
  even_member [] i d even l = absurd (omega arith)
  even_member (t ∷ ts) zero d (n, even) l = (n, λ w h. even w (inl h))
  even_member (t ∷ ts) (suc i) d (n, even) l = even_member ts i d (n, λ w h. even w (inr h)) (omega arith)

  one_at : (A : ℕ → ℕ → Type 0) (ts : List Tree) (i : ℕ) (d : Tree) (w : Word) → i < length ts → LooseWord pointer A (get_or ts i d) w → LooseOneOf pointer A ts w
  one_at A [] i d w l h = absurd (omega arith)
  one_at A (t ∷ ts) zero d w l h = inl h
  one_at A (t ∷ ts) (suc i) d w l h = inr (one_at A ts i d w (omega arith) h)

  -- in an alternative of words with cells no member has the empty one
  pub no_empty : (ts : List Tree) (i : ℕ) (d : Tree) → one_of ts ≡ Long → AreEven (LooseOneOf pointer (holds any) ts) → i < length ts → extent_of (get_or ts i d) ≡ Empty → ⊥
  no_empty ts i d long (n, even) l e =
      let (c, w, h) = subst (λ (x : Extent). IsExtent x (λ A. LooseOneOf pointer (holds A) ts)) long (one_is pointer some ts) in
      let none : IsExtent Empty (λ A. LooseWord pointer (holds A) (get_or ts i d)) = subst (λ (x : Extent). IsExtent x (λ A. LooseWord pointer (holds A) (get_or ts i d))) e (extent_is pointer some (get_or ts i d)) in
      let zero_size = even [] (one_at (holds any) ts i d [] l (none any)) in
      let size = even (c ∷ w) h in
      omega arith

  pub even_part : (n : ℕ) (t : Tree) → 0 < n → extent_of t ≢ Dead → AreEven (Times n (LooseWord pointer (holds any) t)) → AreEven (LooseWord pointer (holds any) t)
  even_part zero t pos live even = absurd (omega arith)
  even_part (suc n) t pos live (k, even) =
      let (w, h) = has_word (extent_of t) (λ A. LooseWord pointer (holds A) t) live (extent_is pointer some t) in
      let (v, x) = some_times (LooseWord pointer (holds any) t) w h n in
      (k - length v, λ u a. let e = even (u ++ v) (u, v, refl, a, x) in let z = length-append u v in omega arith)
