-- The order of words is strict: of two that aren't one, one is less, and less than less is less. Texts
-- compare too.
use Rattle.std.proofs.Common.{◌≡◌, ℕ, refl, ap, Bool, true, false, ◌||◌, ◌&&◌, not, List, [], ◌∷◌, nat_lt, ◌==◌, arith, ⊎_elim, inl, inr, ◌⊎◌, subst, sym}
use Rattle.std.proofs.lemmas.Bool.Decides.{nat_tests}
use Rattle.tm_base.specs.declared.cell.RefId.{RefId}
use Rattle.tm_base.specs.declared.cell.Cell.{Cell}
use Rattle.tm_base.specs.declared.cell.Cell.TheVariants.{Byte, Uninit, Ptr}
use Rattle.tm_base.specs.Cells.{Word}
use Rattle.tm_base.specs.Orders.{list_less, cell_less, word_less, text_less}

abbrev ref_id : ℕ → RefId
ref_id n = record { 0 = n }

-- the test of two references' cells, on the numbers alone
tests_equal : (r t j i : ℕ) → (nat_lt r t || ((r == t) && nat_lt j i)) ≡ false → (nat_lt t r || ((t == r) && nat_lt i j)) ≡ false → r ≡ t
tests_equal r t j i h k = grind (arith, nat_tests)

tests_places : (r t j i : ℕ) → (nat_lt r t || ((r == t) && nat_lt j i)) ≡ false → (nat_lt t r || ((t == r) && nat_lt i j)) ≡ false → j ≡ i
tests_places r t j i h k = grind (arith, nat_tests)

tests_asym : (r t j i : ℕ) → (nat_lt r t || ((r == t) && nat_lt j i)) ≡ true → (nat_lt t r || ((t == r) && nat_lt i j)) ≡ false
tests_asym r t j i h = grind (arith, nat_tests)

-- two cells of which neither is less are one
pub cell_less-total : (c d : Cell) → cell_less c d ≡ false → cell_less d c ≡ false → c ≡ d
cell_less-total (Byte a) (Byte b) h k =
    let same : a ≡ b = grind (arith, nat_tests) in
    ap Byte same
cell_less-total (Byte a) Uninit h k = cc
cell_less-total (Byte a) (Ptr r j) h k = cc
cell_less-total Uninit (Byte b) h k = cc
cell_less-total Uninit Uninit h k = refl
cell_less-total Uninit (Ptr r j) h k = cc
cell_less-total (Ptr r j) (Byte b) h k = cc
cell_less-total (Ptr r j) Uninit h k = cc
cell_less-total (Ptr r j) (Ptr t i) h k =
    let same : r.0 ≡ t.0 = tests_equal r.0 t.0 j i h k in
    let same_ref : r ≡ t = ap ref_id same in
    let same_place : j ≡ i = tests_places r.0 t.0 j i h k in
    cc

-- no cell is less than one that is less than it
pub cell_less-asym : (c d : Cell) → cell_less c d ≡ true → cell_less d c ≡ false
cell_less-asym (Byte a) (Byte b) h = grind (arith, nat_tests)
cell_less-asym (Byte a) Uninit h = refl
cell_less-asym (Byte a) (Ptr r j) h = refl
cell_less-asym Uninit (Byte b) h = cc
cell_less-asym Uninit Uninit h = cc
cell_less-asym Uninit (Ptr r j) h = refl
cell_less-asym (Ptr r j) (Byte b) h = cc
cell_less-asym (Ptr r j) Uninit h = cc
cell_less-asym (Ptr r j) (Ptr t i) h = tests_asym r.0 t.0 j i h

step_total : (b c rest : Bool) → (b || (not c && rest)) ≡ false → b ≡ false
step_total true c rest h = cc
step_total false c rest h = refl

step_rest : (b c rest : Bool) → (b || (not c && rest)) ≡ false → c ≡ false → rest ≡ false
step_rest true c rest h e = cc
step_rest false true rest h e = cc
step_rest false false rest h e = h

-- two lists of which neither is less are one, where that holds of their items
pub list_less-total : {X : Type 0} (less : X → X → Bool) → ((x y : X) → less x y ≡ false → less y x ≡ false → x ≡ y)
    → (v w : List X) → list_less less v w ≡ false → list_less less w v ≡ false → v ≡ w
unfolding list_less
list_less-total less total [] [] h k = refl
list_less-total less total [] (y ∷ ys) h k = cc
list_less-total less total (x ∷ xs) [] h k = cc
list_less-total less total (x ∷ xs) (y ∷ ys) h k =
    let above : less x y ≡ false = step_total (less x y) (less y x) (list_less less xs ys) h in
    let below : less y x ≡ false = step_total (less y x) (less x y) (list_less less ys xs) k in
    let same : x ≡ y = total x y above below in
    let others : xs ≡ ys =
    list_less-total less total xs ys
    (step_rest (less x y) (less y x) (list_less less xs ys) h below)
    (step_rest (less y x) (less x y) (list_less less ys xs) k above) in
    cc

-- two words of which neither is less are one
pub word_less-total : (v w : Word) → word_less v w ≡ false → word_less w v ≡ false → v ≡ w
word_less-total v w = list_less-total cell_less cell_less-total v w

pub nat_lt-total : (m n : ℕ) → nat_lt m n ≡ false → nat_lt n m ≡ false → m ≡ n
nat_lt-total m n h k = grind (arith, nat_tests)

-- two texts of which neither is less are one
pub text_less-total : (v w : List ℕ) → text_less v w ≡ false → text_less w v ≡ false → v ≡ w
text_less-total v w = list_less-total nat_lt nat_lt-total v w

step_asym : (b c x y : Bool) → (b ≡ true → c ≡ false) → (x ≡ true → y ≡ false) → (b || (not c && x)) ≡ true → (c || (not b && y)) ≡ false
step_asym true c x y f g h = rw (f refl)
step_asym false true x y f g h = cc
step_asym false false x y f g h = g h

-- no word is less than one that is less than it
pub word_less-asym : (v w : Word) → word_less v w ≡ true → word_less w v ≡ false
unfolding list_less
word_less-asym [] [] h = cc
word_less-asym [] (d ∷ ds) h = refl
word_less-asym (c ∷ cs) [] h = cc
word_less-asym (c ∷ cs) (d ∷ ds) h =
    step_asym (cell_less c d) (cell_less d c) (word_less cs ds) (word_less ds cs) (cell_less-asym c d) (word_less-asym cs ds) h

tests_trans : (r s t j i k : ℕ) → (nat_lt r s || ((r == s) && nat_lt j i)) ≡ true → (nat_lt s t || ((s == t) && nat_lt i k)) ≡ true → (nat_lt r t || ((r == t) && nat_lt j k)) ≡ true
tests_trans r s t j i k h l = grind (arith, nat_tests)

pub cell_less-trans : (c d e : Cell) → cell_less c d ≡ true → cell_less d e ≡ true → cell_less c e ≡ true
cell_less-trans (Byte a) (Byte b) (Byte x) h k = grind (arith, nat_tests)
cell_less-trans (Byte a) (Byte b) Uninit h k = refl
cell_less-trans (Byte a) (Byte b) (Ptr t i) h k = refl
cell_less-trans (Byte a) Uninit (Byte x) h k = cc
cell_less-trans (Byte a) Uninit Uninit h k = cc
cell_less-trans (Byte a) Uninit (Ptr t i) h k = refl
cell_less-trans (Byte a) (Ptr s j) (Byte x) h k = cc
cell_less-trans (Byte a) (Ptr s j) Uninit h k = cc
cell_less-trans (Byte a) (Ptr s j) (Ptr t i) h k = refl
cell_less-trans Uninit (Byte b) e h k = cc
cell_less-trans Uninit Uninit e h k = cc
cell_less-trans Uninit (Ptr s j) (Byte x) h k = cc
cell_less-trans Uninit (Ptr s j) Uninit h k = cc
cell_less-trans Uninit (Ptr s j) (Ptr t i) h k = refl
cell_less-trans (Ptr r j) (Byte b) e h k = cc
cell_less-trans (Ptr r j) Uninit e h k = cc
cell_less-trans (Ptr r j) (Ptr s i) (Byte x) h k = cc
cell_less-trans (Ptr r j) (Ptr s i) Uninit h k = cc
cell_less-trans (Ptr r j) (Ptr s i) (Ptr t l) h k = tests_trans r.0 s.0 t.0 j i l h k

head_or_rest : (b c rest : Bool) → (b || (not c && rest)) ≡ true → (b ≡ true) ⊎ ((b ≡ false) × (c ≡ false) × (rest ≡ true))
head_or_rest true c rest h = inl refl
head_or_rest false true rest h = cc
head_or_rest false false rest h = inr (refl, refl, h)

by_head : (b c rest : Bool) → b ≡ true → (b || (not c && rest)) ≡ true
by_head true c rest h = refl
by_head false c rest h = cc

by_rest : (b c rest : Bool) → c ≡ false → rest ≡ true → (b || (not c && rest)) ≡ true
by_rest true c rest e h = refl
by_rest false true rest e h = cc
by_rest false false rest e h = h

-- what is less than a list that is less than a third is less than the third, where that holds of items
pub list_less-trans : {X : Type 0} (less : X → X → Bool) → ((x y : X) → less x y ≡ false → less y x ≡ false → x ≡ y)
    → ((x y z : X) → less x y ≡ true → less y z ≡ true → less x z ≡ true)
    → (u v w : List X) → list_less less u v ≡ true → list_less less v w ≡ true → list_less less u w ≡ true
unfolding list_less
list_less-trans less total trans [] [] w h k = cc
list_less-trans less total trans (x ∷ xs) [] w h k = cc
list_less-trans less total trans [] (y ∷ ys) [] h k = cc
list_less-trans less total trans [] (y ∷ ys) (z ∷ zs) h k = refl
list_less-trans less total trans (x ∷ xs) (y ∷ ys) [] h k = cc
list_less-trans {X} less total trans (x ∷ xs) (y ∷ ys) (z ∷ zs) h k =
    ⊎_elim
    (λ (xy : less x y ≡ true). ⊎_elim
    (λ (yz : less y z ≡ true). by_head (less x z) (less z x) (list_less less xs zs) (trans x y z xy yz))
    (λ (a, b, rest). by_head (less x z) (less z x) (list_less less xs zs) (subst (λ (q : X). less x q ≡ true) (total y z a b) xy))
    (head_or_rest (less y z) (less z y) (list_less less ys zs) k))
    (λ (a, b, rest). ⊎_elim
    (λ (yz : less y z ≡ true). by_head (less x z) (less z x) (list_less less xs zs) (subst (λ (q : X). less q z ≡ true) (sym (total x y a b)) yz))
    (λ (a', b', rest'). by_rest (less x z) (less z x) (list_less less xs zs)
    (subst (λ (q : X). less z q ≡ false) (sym (total x y a b)) b') (list_less-trans less total trans xs ys zs rest rest'))
    (head_or_rest (less y z) (less z y) (list_less less ys zs) k))
    (head_or_rest (less x y) (less y x) (list_less less xs ys) h)

pub word_less-trans : (u v w : Word) → word_less u v ≡ true → word_less v w ≡ true → word_less u w ≡ true
word_less-trans u v w = list_less-trans cell_less cell_less-total cell_less-trans u v w

pub nat_lt-irrefl : (n : ℕ) → nat_lt n n ≡ false
nat_lt-irrefl n = grind (arith, nat_tests)

pub nat_lt-trans : (l m n : ℕ) → nat_lt l m ≡ true → nat_lt m n ≡ true → nat_lt l n ≡ true
nat_lt-trans l m n h k = grind (arith, nat_tests)

-- no text is less than itself
pub text_less-irrefl : (text : List ℕ) → text_less text text ≡ false
unfolding list_less
text_less-irrefl [] = refl
text_less-irrefl (x ∷ xs) =
    let first = nat_lt-irrefl x in
    let rest = text_less-irrefl xs in
    rw (first, rest) refl

pub text_less-trans : (u v w : List ℕ) → text_less u v ≡ true → text_less v w ≡ true → text_less u w ≡ true
text_less-trans u v w = list_less-trans nat_lt nat_lt-total nat_lt-trans u v w
