-- Tests of the items of a list that only rise from turn to turn, and rest on the turn before alone, are
-- still after as many turns as there are items.
use Rattle.std.proofs.Common.{◌≡◌, ℕ, zero, suc, ◌+◌, ◌<◌, ◌≤◌, ◌⊎◌, inl, inr, refl, sym, ◌∙◌, subst, Bool, true, false, List, [], ◌∷◌, length, arith}
use Rattle.tm_laws.proofs.known.ListedLemmas.{IsIn}

abbrev one_if : Bool → ℕ
one_if true = 1
one_if false = 0

one_if-most : (b : Bool) → one_if b ≤ 1
one_if-most true = omega arith
one_if-most false = omega arith

one_if-rises : (b c : Bool) → (b ≡ true → c ≡ true) → (b ≡ c) ⊎ (one_if b < one_if c)
one_if-rises true c h = inl (sym (h refl))
one_if-rises false true h = inr (omega arith)
one_if-rises false false h = inl refl

one_if-same : (b c : Bool) → (b ≡ true → c ≡ true) → one_if b ≤ one_if c
one_if-same true c h = rw (h refl) (omega arith)
one_if-same false c h = omega arith

module _ {X : Type 0} (P : ℕ → X → Bool) (rises : (n : ℕ) (x : X) → P n x ≡ true → P (suc n) x ≡ true) where
  -- how many items pass at a turn
  abbrev passing : List X → ℕ → ℕ
  passing [] n = 0
  passing (x ∷ xs) n = one_if (P n x) + passing xs n

  passing-most : (xs : List X) (n : ℕ) → passing xs n ≤ length xs
  passing-most [] n = omega arith
  passing-most (x ∷ xs) n = omega (arith, passing-most xs n, one_if-most (P n x))

  passing-rises : (xs : List X) (n : ℕ) → passing xs n ≤ passing xs (suc n)
  passing-rises [] n = omega arith
  passing-rises (x ∷ xs) n = omega (arith, passing-rises xs n, one_if-same (P n x) (P (suc n) x) (rises n x))

  -- the turn changes nothing
  abbrev IsStillOn : List X → ℕ → Type 0
  IsStillOn xs n = (x : X) → IsIn x xs → P n x ≡ P (suc n) x

  still_or_more : (xs : List X) (n : ℕ) → IsStillOn xs n ⊎ (passing xs n < passing xs (suc n))
  still_or_more [] n = inl (λ x h. absurd h)
  still_or_more (y ∷ xs) n = go (one_if-rises (P n y) (P (suc n) y) (rises n y)) (still_or_more xs n) where
    go : (P n y ≡ P (suc n) y) ⊎ (one_if (P n y) < one_if (P (suc n) y)) → IsStillOn xs n ⊎ (passing xs n < passing xs (suc n))
        → IsStillOn (y ∷ xs) n ⊎ (one_if (P n y) + passing xs n < one_if (P (suc n) y) + passing xs (suc n))
    go (inr more) rest = inr (omega (arith, passing-rises xs n))
    go (inl same) (inr more) = inr (omega (arith, one_if-same (P n y) (P (suc n) y) (rises n y)))
    go (inl same) (inl still) = inl both where
      both : (x : X) → (y ≡ x) ⊎ IsIn x xs → P n x ≡ P (suc n) x
      both x (inl e) = subst (λ (u : X). P n u ≡ P (suc n) u) e same
      both x (inr h) = still x h

  pub stays_true : (k n : ℕ) (x : X) → P n x ≡ true → P (k + n) x ≡ true
  stays_true zero n x h = let e : 0 + n ≡ n = omega arith in rw e h
  stays_true (suc k) n x h = let e : suc k + n ≡ suc (k + n) = omega arith in rw e (rises (k + n) x (stays_true k n x h))

  module _ (C : List X) (follows : (n m : ℕ) → ((x : X) → IsIn x C → P n x ≡ P m x) → (x : X) → IsIn x C → P (suc n) x ≡ P (suc m) x) where
    IsStill-next : (n : ℕ) → IsStillOn C n → IsStillOn C (suc n)
    IsStill-next n h = follows n (suc n) h

    still_by : (n : ℕ) → IsStillOn C n ⊎ (suc n ≤ passing C (suc n))
    still_by zero = go (still_or_more C 0) where
      go : IsStillOn C 0 ⊎ (passing C 0 < passing C 1) → IsStillOn C 0 ⊎ (1 ≤ passing C 1)
      go (inl h) = inl h
      go (inr h) = inr (omega arith)
    still_by (suc n) = go (still_by n) (still_or_more C (suc n)) where
      go : IsStillOn C n ⊎ (suc n ≤ passing C (suc n)) → IsStillOn C (suc n) ⊎ (passing C (suc n) < passing C (suc (suc n)))
          → IsStillOn C (suc n) ⊎ (suc (suc n) ≤ passing C (suc (suc n)))
      go (inl h) other = inl (IsStill-next n h)
      go (inr h) (inl k) = inl k
      go (inr h) (inr k) = inr (omega arith)

    still_at_last : IsStillOn C (length C)
    still_at_last = go (still_by (length C)) where
      go : IsStillOn C (length C) ⊎ (suc (length C) ≤ passing C (suc (length C))) → IsStillOn C (length C)
      go (inl h) = h
      go (inr h) = absurd (omega (arith, passing-most C (suc (length C))))

    still_after : (k : ℕ) → IsStillOn C (k + length C)
    still_after zero = let e : 0 + length C ≡ length C = omega arith in rw e still_at_last
    still_after (suc k) = let e : suc k + length C ≡ suc (k + length C) = omega arith in rw e (IsStill-next (k + length C) (still_after k))

    same_after : (k : ℕ) (x : X) → IsIn x C → P (k + length C) x ≡ P (length C) x
    same_after zero x h = let e : 0 + length C ≡ length C = omega arith in rw e refl
    same_after (suc k) x h =
        let e : suc k + length C ≡ suc (k + length C) = omega arith in
        rw e (sym (still_after k x h) ∙ same_after k x h)

    -- what passes at some turn passes after as many turns as there are items
    pub true_by_length : (n : ℕ) (x : X) → IsIn x C → P n x ≡ true → P (length C) x ≡ true
    true_by_length n x at h =
        let e : n + length C ≡ length C + n = omega arith in
        sym (same_after n x at) ∙ (rw e (stays_true (length C) n x h))
