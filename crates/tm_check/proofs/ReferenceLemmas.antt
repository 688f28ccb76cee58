-- References and wrappers: cells that begin one, and cells behind them that make it whole.
use Rattle.std.proofs.Common.{◌≡◌, ℕ, zero, suc, ◌+◌, ◌-◌, ◌<◌, ◌≤◌, nat_le, ◌==◌, ◌⊎◌, inl, inr, ⊎_elim, refl, sym, ◌∙◌, ap, subst, Bool, true, ◌&&◌, ◌||◌, IsTrue, [], ◌∷◌, ◌++◌, length, map, replicate, arith}
use Rattle.std.specs.List.{list_all, range_with_len}
use Rattle.std.proofs.lemmas.Bool.{le-leb, leb-true, eqb-true, eq-eqb}
use Rattle.std.proofs.lemmas.List.{length-append, length-replicate, replicate-append-replicate}
use Rattle.tm_base.specs.declared.cell.Cell.{Cell}
use Rattle.tm_base.specs.declared.cell.Cell.TheVariants.{Byte, Uninit, Ptr}
use Rattle.tm_base.specs.declared.ground.Wrapper.{Wrapper}
use Rattle.tm_base.specs.declared.ground.Wrapper.TheVariants as wrapper
use Rattle.tm_base.specs.Cells.{Word, own, pointer_of}
use Rattle.tm_base.specs.Transmutes.{holds}
use Rattle.tm_base.specs.Valid.{WrapValid}
use Rattle.tm_base.specs.ValidTest.{first_ref, is_free}
use Rattle.tm_check.specs.Begins.{are_of, is_zero, ref_begins, takes_besides}
use Rattle.tm_check.specs.Numbers.{may_be_free}
use Rattle.tm_check.proofs.CutLemmas.{and-true, both, either, or-first, or-second}
use Rattle.tm_check.proofs.LeafLemmas.{free-sound, free-told}

-- so many bytes of a reference from the k-th on
abbrev bytes_of : ℕ → ℕ → ℕ → Word
bytes_of x k n = map (λ j. Ptr (record { 0 = x }) j) (range_with_len k n)

-- ---- references

told-of : (x k n : ℕ) (w : Word) → are_of x k w ≡ true → length w ≤ n → (rest : Word) × (w ++ rest ≡ bytes_of x k n)
told-of x k n [] h few = (bytes_of x k n, refl)
told-of x k n (Byte b ∷ w) h few = cc
told-of x k n (Uninit ∷ w) h few = cc
told-of x k zero (Ptr r j ∷ w) h few = absurd (omega arith)
told-of x k (suc n) (Ptr r j ∷ w) h few =
    let (first, others) = both (r.0 == x) ((j == k) && are_of x (k + 1) w) h in
    let (place, behind) = both (j == k) (are_of x (k + 1) w) others in
    let (rest, e) = told-of x (k + 1) n w behind (omega arith) in
    let same : r.0 ≡ x = eqb-true r.0 x first in
    let at : j ≡ k = eqb-true j k place in
    (rest, ap (λ u. Ptr r j ∷ u) e ∙ ap (λ (y : ℕ). Ptr (record { 0 = y }) j ∷ bytes_of x (k + 1) n) same ∙ ap (λ (i : ℕ). Ptr (record { 0 = x }) i ∷ bytes_of x (k + 1) n) at)

of-told : (x k n : ℕ) (w rest : Word) → w ++ rest ≡ bytes_of x k n → (are_of x k w ≡ true) × (length w ≤ n)
of-told x k n [] rest e = (refl, omega arith)
of-told x k zero (c ∷ w) rest e = cc
of-told x k (suc n) (c ∷ w) rest e =
    let both_ways : c ∷ (w ++ rest) ≡ Ptr (record { 0 = x }) k ∷ bytes_of x (k + 1) n = e in
    let first : c ≡ Ptr (record { 0 = x }) k = cc in
    let others : w ++ rest ≡ bytes_of x (k + 1) n = cc in
    let (behind, few) = of-told x (k + 1) n w rest others in
    (ap (λ d. are_of x k (d ∷ w)) first ∙ and-true (x == x) ((k == k) && are_of x (k + 1) w) (eq-eqb x x refl) (and-true (k == k) (are_of x (k + 1) w) (eq-eqb k k refl) behind), omega arith)

first-told : (x : ℕ) (c : Cell) (w : Word) → are_of x 0 (c ∷ w) ≡ true → first_ref (c ∷ w) ≡ x
first-told x (Byte b) w h = cc
first-told x Uninit w h = cc
first-told x (Ptr r j) w h = eqb-true r.0 x (both (r.0 == x) ((j == 0) && are_of x 1 w) h).0

pub ref-sound : (A : ℕ → ℕ → Bool) (E : Type 0) (size t : ℕ) (w : Word) → 0 < size → ref_begins A size t w ≡ true → (length w < size → E)
    → (rest : Word) × ((x : ℕ) × (holds A x t ⊎ (E × (x ≡ own t))) × (w ++ rest ≡ pointer_of size x))
ref-sound A E size t [] some h unknown = (pointer_of size (own t), (own t, inr (unknown some, refl), refl))
ref-sound A E size t (c ∷ w) some h unknown =
    let x = first_ref (c ∷ w) in
    let (few, others) = both (nat_le (length (c ∷ w)) size) (A x t && are_of x 0 (c ∷ w)) h in
    let (held, are) = both (A x t) (are_of x 0 (c ∷ w)) others in
    let (rest, e) = told-of x 0 size (c ∷ w) are (leb-true (length (c ∷ w)) size few) in
    (rest, (x, inl held, e))

pub ref-told : (A : ℕ → ℕ → Bool) (size t : ℕ) (w rest : Word) → (x : ℕ) × IsTrue (A x t) × (w ++ rest ≡ pointer_of size x) → ref_begins A size t w ≡ true
ref-told A size t [] rest (x, held, e) = refl
ref-told A size t (c ∷ w) rest (x, held, e) =
    let (are, few) = of-told x 0 size (c ∷ w) rest e in
    let same : x ≡ first_ref (c ∷ w) = sym (first-told x c w are) in
    and-true (nat_le (length (c ∷ w)) size) (A (first_ref (c ∷ w)) t && are_of (first_ref (c ∷ w)) 0 (c ∷ w)) (le-leb (length (c ∷ w)) size few)
    (subst (λ (y : ℕ). (A y t && are_of y 0 (c ∷ w)) ≡ true) same (and-true (A x t) (are_of x 0 (c ∷ w)) held are))

-- ---- wrappers

zero-is : (c : Cell) → is_zero c ≡ true → c ≡ Byte 0
zero-is (Byte b) h = ap Byte (eqb-true b 0 h)
zero-is Uninit h = cc
zero-is (Ptr r k) h = cc

zeros-are : (w : Word) → list_all is_zero w ≡ true → w ≡ replicate (length w) (Byte 0)
zeros-are [] h = refl
zeros-are (c ∷ w) h =
    let (first, others) = both (is_zero c) (list_all is_zero w) h in
    ap (λ d. d ∷ w) (zero-is c first) ∙ ap (λ u. Byte 0 ∷ u) (zeros-are w others)

zeros-told : (n : ℕ) (w rest : Word) → w ++ rest ≡ replicate n (Byte 0) → (nat_le (length w) n && list_all is_zero w) ≡ true
zeros-told n w rest e = and-true (nat_le (length w) n) (list_all is_zero w) (le-leb (length w) n few) (go n w rest e) where
  go : (n : ℕ) (w rest : Word) → w ++ rest ≡ replicate n (Byte 0) → list_all is_zero w ≡ true
  go n [] rest e = refl
  go zero (c ∷ w) rest e = cc
  go (suc n) (c ∷ w) rest e =
      let first : c ≡ Byte 0 = cc in
      let others : w ++ rest ≡ replicate n (Byte 0) = cc in
      and-true (is_zero c) (list_all is_zero w) (ap is_zero first) (go n w rest others)

  few : length w ≤ n
  few = let total = length-append w rest in let all = ap length e ∙ length-replicate n (Byte 0) in omega arith

zeros-sound : (n : ℕ) (w : Word) → (nat_le (length w) n && list_all is_zero w) ≡ true → (rest : Word) × (w ++ rest ≡ replicate n (Byte 0))
zeros-sound n w h =
    let (few, zeros) = both (nat_le (length w) n) (list_all is_zero w) h in
    let short = leb-true (length w) n few in
    let whole : length w + (n - length w) ≡ n = omega arith in (
      replicate (n - length w) (Byte 0),
      ap (λ u. u ++ replicate (n - length w) (Byte 0)) (zeros-are w zeros) ∙ replicate-append-replicate (length w) (n - length w) (Byte 0) ∙ ap (λ (k : ℕ). replicate k (Byte 0)) whole,
    )

module _ (n : ℕ) (test : Word → Bool) (P : Word → Type 0) where
  pub wrap-sound : (k : Wrapper) (w : Word) → (takes_besides k n w || test w) ≡ true → (test w ≡ true → (rest : Word) × P (w ++ rest)) → length w ≤ n → (rest : Word) × WrapValid k n P (w ++ rest)
  wrap-sound wrapper.Option w h each short = ⊎_elim
      (λ (zeros : takes_besides wrapper.Option n w ≡ true). let (rest, e) = zeros-sound n w zeros in (rest, inl e)) (λ (here : test w ≡ true). let (rest, v) = each here in (rest, inr v))
      (either (takes_besides wrapper.Option n w) (test w) h)
  wrap-sound wrapper.MaybeUninit w h each short = ⊎_elim
      (λ (free : may_be_free n w ≡ true). let (rest, long, all) = free-sound n w (both (nat_le (length w) n) (list_all is_free w) free).1 short in (rest, inl (long, all)))
      (λ (here : test w ≡ true). let (rest, v) = each here in (rest, inr v))
      (either (may_be_free n w) (test w) h)
  wrap-sound _ w h each short = each h

  pub wrap-told : (k : Wrapper) (w rest : Word) → WrapValid k n P (w ++ rest) → (P (w ++ rest) → test w ≡ true) → (takes_besides k n w || test w) ≡ true
  wrap-told wrapper.Option w rest (inl e) each = or-first (takes_besides wrapper.Option n w) (test w) (zeros-told n w rest e)
  wrap-told wrapper.Option w rest (inr v) each = or-second (takes_besides wrapper.Option n w) (test w) (each v)
  wrap-told wrapper.MaybeUninit w rest (inl free) each = or-first (may_be_free n w) (test w) (free-told n w rest free)
  wrap-told wrapper.MaybeUninit w rest (inr v) each = or-second (may_be_free n w) (test w) (each v)
  wrap-told _ w rest v each = each v
