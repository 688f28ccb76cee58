-- It is known whether some way of steps leads to what passes a test, where a list holds all that a way
-- may come to.
use Rattle.std.proofs.Common.{◌≡◌, ℕ, zero, suc, ◌⊎◌, inl, inr, refl, sym, subst, Bool, true, ◌||◌, List, [], ◌∷◌, length}
use Rattle.std.specs.List.{list_any}
use Rattle.std.proofs.lemmas.Bool.{or_cases, or_left, or_right}
use Rattle.tm_base.specs.Reaches.{ChainIn, Chain}
use Rattle.tm_laws.proofs.known.DecideLemmas.{Dec-is}
use Rattle.tm_laws.proofs.known.ListedLemmas.{IsIn}
use Rattle.tm_laws.proofs.known.StillLemmas.{true_by_length}

any_from : {X : Type 0} (p : X → Bool) (xs : List X) → list_any p xs ≡ true → (x : X) × IsIn x xs × (p x ≡ true)
any_from p [] h = cc
any_from {X} p (y ∷ xs) h = go (any_from p xs) (or_cases (p y) (list_any p xs) h) where
  go : (list_any p xs ≡ true → (x : X) × IsIn x xs × (p x ≡ true)) → (p y ≡ true) ⊎ (list_any p xs ≡ true) → (x : X) × ((y ≡ x) ⊎ IsIn x xs) × (p x ≡ true)
  go rest (inl e) = (y, inl refl, e)
  go rest (inr e) =
      let (x, at, k) = rest e in
      (x, inr at, k)

any_to : {X : Type 0} (p : X → Bool) (xs : List X) (x : X) → IsIn x xs → p x ≡ true → list_any p xs ≡ true
any_to p [] x h k = absurd h
any_to p (y ∷ xs) x (inl e) k = or_left (p y) (list_any p xs) (subst (λ u. p u ≡ true) (sym e) k)
any_to p (y ∷ xs) x (inr h) k = or_right (p y) (list_any p xs) (any_to p xs x h k)

any_rises : {X : Type 0} (p q : X → Bool) (xs : List X) → ((x : X) → p x ≡ true → q x ≡ true) → list_any p xs ≡ true → list_any q xs ≡ true
any_rises p q xs rises h =
    let (x, at, k) = any_from p xs h in
    any_to q xs x at (rises x k)

any_same : {X : Type 0} (p q : X → Bool) (xs : List X) → ((x : X) → IsIn x xs → p x ≡ q x) → list_any p xs ≡ list_any q xs
any_same p q [] same = refl
any_same p q (y ∷ xs) same =
    let first = same y (inl refl) in
    let rest = any_same p q xs (λ x h. same x (inr h)) in
    rw (first, rest) refl

module _ {X : Type 0} (Step : X → X → Type 0) (next : X → List X) (step_in : (a b : X) → Step a b → IsIn b (next a)) (in_step : (a b : X) → IsIn b (next a) → Step a b) (test : X → Bool) where
  -- a way of at most so many steps leads to what passes
  abbrev leads_within : ℕ → X → Bool
  leads_within zero x = test x
  leads_within (suc n) x = test x || list_any (leads_within n) (next x)

  leads_rises : (n : ℕ) (x : X) → leads_within n x ≡ true → leads_within (suc n) x ≡ true
  leads_rises zero x h = or_left (test x) (list_any (leads_within zero) (next x)) h
  leads_rises (suc n) x h = go (leads_rises n) (or_cases (test x) (list_any (leads_within n) (next x)) h) where
    go : ((y : X) → leads_within n y ≡ true → leads_within (suc n) y ≡ true) → (test x ≡ true) ⊎ (list_any (leads_within n) (next x) ≡ true) → leads_within (suc (suc n)) x ≡ true
    go rises (inl e) = or_left (test x) (list_any (leads_within (suc n)) (next x)) e
    go rises (inr e) = or_right (test x) (list_any (leads_within (suc n)) (next x)) (any_rises (leads_within n) (leads_within (suc n)) (next x) rises e)

  -- a way to what passes
  abbrev LeadsTo : X → Type 0
  LeadsTo x = (h : X) × Chain Step x h × (test h ≡ true)

  leads-sound : (n : ℕ) (x : X) → leads_within n x ≡ true → LeadsTo x
  unfolding ChainIn
  leads-sound zero x h = (x, (0, refl), h)
  leads-sound (suc n) x h = go (leads-sound n) (or_cases (test x) (list_any (leads_within n) (next x)) h) where
    go : ((y : X) → leads_within n y ≡ true → LeadsTo y) → (test x ≡ true) ⊎ (list_any (leads_within n) (next x) ≡ true) → LeadsTo x
    go sound (inl e) = (x, (0, refl), e)
    go sound (inr e) =
        let (y, at, k) = any_from (leads_within n) (next x) e in
        let (h, (m, way), passes) = sound y k in
        (h, (suc m, (y, in_step x y at, way)), passes)

  leads-complete : (n : ℕ) (x h : X) → ChainIn Step n x h → test h ≡ true → leads_within n x ≡ true
  unfolding ChainIn
  leads-complete zero x h e k = subst (λ u. test u ≡ true) (sym e) k
  leads-complete (suc n) x h (y, step, way) k =
      or_right (test x) (list_any (leads_within n) (next x)) (any_to (leads_within n) (next x) y (step_in x y step) (leads-complete n y h way k))

  module _ (C : List X) (closed : (a b : X) → IsIn a C → IsIn b (next a) → IsIn b C) where
    leads_follows : (n m : ℕ) → ((x : X) → IsIn x C → leads_within n x ≡ leads_within m x) → (x : X) → IsIn x C → leads_within (suc n) x ≡ leads_within (suc m) x
    leads_follows n m same x at =
        let rest = any_same (leads_within n) (leads_within m) (next x) (λ y h. same y (closed x y at h)) in
        rw rest refl

    -- it is known whether a way leads to what passes
    pub LeadsTo-known : (x : X) → IsIn x C → Dec ((h : X) × Chain Step x h × (test h ≡ true))
    LeadsTo-known x at = go (Dec-is (leads_within (length C) x) true) where
      go : Dec (leads_within (length C) x ≡ true) → Dec (LeadsTo x)
      go (yes e) = yes (leads-sound (length C) x e)
      go (no f) = no (λ (h, (n, way), passes). f (true_by_length leads_within leads_rises C leads_follows n x at (leads-complete n x h way passes)))
