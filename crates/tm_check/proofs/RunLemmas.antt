-- Runs of cells: those that are told, and uninitialised ones behind them.
use Rattle.std.proofs.Common.{◌≡◌, ℕ, zero, suc, ◌+◌, ◌-◌, ◌≤◌, ◌<◌, min, refl, sym, ◌∙◌, ap, Bool, true, false, ◌&&◌, ◌==◌, if◌then◌else◌, nat_le, ◌^◌, Some, None, [], ◌∷◌, ◌++◌, length, take, drop, replicate, arith}
use Rattle.std.specs.List.{list_all}
use Rattle.std.proofs.lemmas.Bool.Decides.{nat_tests}
use Rattle.std.proofs.lemmas.List.{take_min, drop_min, append-nil}
use Rattle.tm_base.specs.declared.cell.Cell.{Cell}
use Rattle.tm_base.specs.declared.cell.Cell.TheVariants.{Byte, Uninit, Ptr}
use Rattle.tm_base.specs.declared.profile.Profile.{Profile}
use Rattle.tm_base.specs.Cells.{Word}
use Rattle.tm_base.specs.Profiles.{number_of}
use Rattle.tm_base.specs.ValidTest.{first_ref, is_byte, is_free}
use Rattle.tm_check.specs.Numbers.{may_be_bytes, number_within}
use Rattle.tm_check.specs.Begins.{are_of, ref_begins}
use Rattle.tm_check.proofs.CutLemmas.{both, bytes-decide}
use Rattle.tm_check.proofs.NumberLemmas.{number_of-small, power-least}

abbrev pub behind_told : Word → ℕ → Word
behind_told w u = w ++ replicate u Uninit

as-many : (j k : ℕ) → j ≡ k → replicate j Uninit ≡ replicate k Uninit
as-many j k e = ap (λ (n : ℕ). replicate n Uninit) e

as-many-behind : (w : Word) (j k : ℕ) → j ≡ k → w ++ replicate j Uninit ≡ w ++ replicate k Uninit
as-many-behind w j k e = ap (λ (n : ℕ). w ++ replicate n Uninit) e

take-uninit : (n u : ℕ) → take n (replicate u Uninit) ≡ replicate (min u n) Uninit
take-uninit zero u = as-many 0 (min u 0) (omega arith)
take-uninit (suc n) zero = as-many 0 (min 0 (suc n)) (omega arith)
take-uninit (suc n) (suc u) = ap (λ w. Uninit ∷ w) (take-uninit n u) ∙ as-many (suc (min u n)) (min (suc u) (suc n)) (omega arith)

drop-uninit : (n u : ℕ) → drop n (replicate u Uninit) ≡ replicate (u - n) Uninit
drop-uninit zero u = as-many u (u - 0) (omega arith)
drop-uninit (suc n) zero = as-many 0 (0 - suc n) (omega arith)
drop-uninit (suc n) (suc u) = drop-uninit n u ∙ as-many (u - n) (suc u - suc n) (omega arith)

pub take-told : (n u : ℕ) (w : Word) → take n (behind_told w u) ≡ take n w ++ replicate (min u (n - length w)) Uninit
take-told zero u w = as-many 0 (min u (0 - length w)) (omega arith)
take-told (suc n) u [] = take-uninit (suc n) u ∙ as-many (min u (suc n)) (min u (suc n - 0)) (omega arith)
take-told (suc n) u (c ∷ w) =
    ap (λ v. c ∷ v) (take-told n u w ∙ as-many-behind (take n w) (min u (n - length w)) (min u (suc n - suc (length w))) (omega arith))

drop-told : (n u : ℕ) (w : Word) → drop n (behind_told w u) ≡ drop n w ++ replicate (u - (n - length w)) Uninit
drop-told zero u w = as-many-behind w u (u - (0 - length w)) (omega arith)
drop-told (suc n) u [] = drop-uninit (suc n) u ∙ as-many (u - suc n) (u - (suc n - 0)) (omega arith)
drop-told (suc n) u (c ∷ w) = drop-told n u w ∙ as-many-behind (drop n w) (u - (n - length w)) (u - (suc n - suc (length w))) (omega arith)

pub front-told : (n u end left : ℕ) (w : Word) → end ≡ min n (length w) → left ≡ min u (n - end) → take end w ++ replicate left Uninit ≡ take n (behind_told w u)
front-told n u end left w e f =
    ap (λ (k : ℕ). take k w ++ replicate left Uninit) e ∙ ap (λ v. v ++ replicate left Uninit) (take_min n w)
    ∙ as-many-behind (take n w) left (min u (n - length w)) (omega arith) ∙ sym (take-told n u w)

pub back-told : (n u end left : ℕ) (w : Word) → end ≡ min n (length w) → left ≡ u - (n - end) → drop end w ++ replicate left Uninit ≡ drop n (behind_told w u)
back-told n u end left w e f =
    ap (λ (k : ℕ). drop k w ++ replicate left Uninit) e ∙ ap (λ v. v ++ replicate left Uninit) (drop_min n w)
    ∙ as-many-behind (drop n w) left (u - (n - length w)) (omega arith) ∙ sym (drop-told n u w)

uninit-free : (u : ℕ) → list_all is_free (replicate u Uninit) ≡ true
uninit-free zero = refl
uninit-free (suc u) = uninit-free u

-- uninitialised cells are free
pub free-told : (u : ℕ) (w : Word) → list_all is_free w ≡ list_all is_free (behind_told w u)
free-told u [] = sym (uninit-free u)
free-told u (c ∷ w) = ap (λ b. is_free c && b) (free-told u w)

-- where each cell is a byte none is uninitialised
pub bytes-told : (test : Cell → Bool) (u : ℕ) (w : Word) → test Uninit ≡ false → list_all test (behind_told w u) ≡ true → u ≡ 0
bytes-told test zero w none all = refl
bytes-told test (suc u) [] none all = let first = (both (test Uninit) (list_all test (replicate u Uninit)) all).0 in cc
bytes-told test (suc u) (c ∷ w) none all = bytes-told test (suc u) w none (both (test c) (list_all test (behind_told w (suc u))) all).1

pub all-told : (w : Word) (u : ℕ) → u ≡ 0 → behind_told w u ≡ w
all-told w u e = ap (λ (k : ℕ). w ++ replicate k Uninit) e ∙ append-nil w

-- the bytes of a reference are no uninitialised ones
pub pointers-told : (x k u : ℕ) (w : Word) → 0 < u → are_of x k (behind_told w u) ≡ false
pointers-told x k zero w some = absurd (omega arith)
pointers-told x k (suc u) [] some = refl
pointers-told x k (suc u) (Byte b ∷ w) some = refl
pointers-told x k (suc u) (Uninit ∷ w) some = refl
pointers-told x k (suc u) (Ptr r j ∷ w) some = rw (pointers-told x (k + 1) (suc u) w some) (grind arith)

-- ---- numbers

module _ (profile : Profile) (most : ℕ) (w : Word) (number : ℕ) (is : number_within profile most w ≡ Some number) where
  told : (b : Bool) → may_be_bytes most w ≡ b → (may_be_bytes most w ≡ true) × (number ≡ number_of profile w)
  told true e = (e, let same : (if may_be_bytes most w then Some (number_of profile w) else None) ≡ Some (number_of profile w) = rw e refl in cc)
  told false e = let same : (if may_be_bytes most w then Some (number_of profile w) else None) ≡ None = rw e refl in cc

  pub within-bytes : may_be_bytes most w ≡ true
  within-bytes = (told (may_be_bytes most w) refl).0

  pub within-number : number ≡ number_of profile w
  within-number = (told (may_be_bytes most w) refl).1

  pub within-length : length w ≤ most
  within-length = let h = (both (nat_le (length w) most) (list_all is_byte w) within-bytes).0 in grind (arith, nat_tests)

  pub within-small : number < 256 ^ most
  within-small =
      let all = (bytes-decide w).0 (both (nat_le (length w) most) (list_all is_byte w) within-bytes).1 in
      let small = number_of-small profile w all in
      let least = power-least (length w) most within-length in
      let same = within-number in
      omega arith

-- no byte is uninitialised
pub within-told : (profile : Profile) (most u number : ℕ) (w : Word) → number_within profile most (behind_told w u) ≡ Some number → u ≡ 0
within-told profile most u number w is =
    bytes-told is_byte u w refl (both (nat_le (length (behind_told w u)) most) (list_all is_byte (behind_told w u)) (within-bytes profile most (behind_told w u) number is)).1

-- ---- references

module _ (A : ℕ → ℕ → Bool) (size t : ℕ) where
  and-none : (a b c : Bool) → c ≡ false → (a && (b && c)) ≡ false
  and-none true true c e = e
  and-none true false c e = refl
  and-none false b c e = refl

  -- an uninitialised byte is none of a reference
  pub refs-told : (u : ℕ) (w : Word) → 0 < u → ref_begins A size t (behind_told w u) ≡ false
  refs-told zero w some = absurd (omega arith)
  refs-told (suc u) [] some = and-none (nat_le (length (behind_told [] (suc u))) size) (A 0 t) false refl
  refs-told (suc u) (c ∷ w) some =
      and-none (nat_le (length (behind_told (c ∷ w) (suc u))) size) (A (first_ref (behind_told (c ∷ w) (suc u))) t) _ (pointers-told (first_ref (behind_told (c ∷ w) (suc u))) 0 (suc u) (c ∷ w) some)

  -- nor is there a reference of more bytes
  pub refs-long : (w : Word) → nat_le (length w) size ≡ false → (length w == 0) ≡ false → ref_begins A size t w ≡ false
  refs-long [] long some = cc
  refs-long (c ∷ w) long some = rw long refl

  -- where it is of some bytes, and not too many
  pub refs-at : (w : Word) → nat_le (length w) size ≡ true → (length w == 0) ≡ false → ref_begins A size t w ≡ (A (first_ref w) t && are_of (first_ref w) 0 w)
  refs-at [] long some = cc
  refs-at (c ∷ w) long some = rw long refl

pub all-three : (a b e : Bool) → a ≡ true → b ≡ true → e ≡ (a && b && e)
all-three a b e p q = rw (p, q) refl
