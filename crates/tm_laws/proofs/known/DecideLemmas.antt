-- Facts of which it is known whether they hold, and how they are joined.
use Rattle.std.proofs.Common.{◌≡◌, ℕ, ◌<◌, ◌≤◌, ◌⊎◌, inl, inr, refl, Bool, true, false, IsTrue, arith}
use Rattle.std.specs.Bool.{Decides}
use Rattle.std.proofs.lemmas.Bool.{cases_lt, cases_eq}

pub Dec-and : {P Q : Type 0} → Dec P → Dec Q → Dec (P × Q)
Dec-and (yes p) (yes q) = yes (p, q)
Dec-and (yes p) (no f) = no (λ h. f h.1)
Dec-and (no f) q = no (λ h. f h.0)

pub Dec-or : {P Q : Type 0} → Dec P → Dec Q → Dec (P ⊎ Q)
Dec-or (yes p) q = yes (inl p)
Dec-or (no f) (yes q) = yes (inr q)
Dec-or {P} {Q} (no f) (no g) = no neither where
  neither : P ⊎ Q → ⊥
  neither (inl p) = f p
  neither (inr q) = g q

pub Dec-not : {P : Type 0} → Dec P → Dec (¬ P)
Dec-not (yes p) = no (λ f. f p)
Dec-not (no f) = yes f

pub Dec-implies : {P Q : Type 0} → Dec P → Dec Q → Dec (P → Q)
Dec-implies (yes p) (yes q) = yes (λ h. q)
Dec-implies (yes p) (no g) = no (λ f. g (f p))
Dec-implies (no f) q = yes (λ p. absurd (f p))

-- a fact that follows from one and gives it back
pub Dec-like : {P Q : Type 0} → (P → Q) → (Q → P) → Dec P → Dec Q
Dec-like to from (yes p) = yes (to p)
Dec-like to from (no f) = no (λ q. f (from q))

pub Dec-is : (b c : Bool) → Dec (b ≡ c)
Dec-is true true = yes refl
Dec-is true false = no (λ h. cc)
Dec-is false true = no (λ h. cc)
Dec-is false false = yes refl

-- a fact that a test decides
pub Dec-by_test : {P : Type 0} → (b : Bool) → Decides b P → Dec P
Dec-by_test b decides = Dec-like decides.0 decides.1 (Dec-is b true)

pub Dec-le : (m n : ℕ) → Dec (m ≤ n)
Dec-le m n = go (cases_lt n m) where
  go : (n < m) ⊎ (m ≤ n) → Dec (m ≤ n)
  go (inl h) = no (λ k. absurd (omega arith))
  go (inr h) = yes h

pub Dec-lt : (m n : ℕ) → Dec (m < n)
Dec-lt m n = go (cases_lt m n) where
  go : (m < n) ⊎ (n ≤ m) → Dec (m < n)
  go (inl h) = yes h
  go (inr h) = no (λ k. absurd (omega arith))

pub Dec-eq : (m n : ℕ) → Dec (m ≡ n)
Dec-eq m n = go (cases_eq m n) where
  go : (m ≡ n) ⊎ (m ≡ n → ⊥) → Dec (m ≡ n)
  go (inl h) = yes h
  go (inr h) = no h

-- the test of a known fact
abbrev pub test_of : {P : Type 0} → Dec P → Bool
test_of (yes p) = true
test_of (no f) = false

pub test_of-to : {P : Type 0} → (d : Dec P) → IsTrue (test_of d) → P
test_of-to (yes p) h = p
test_of-to (no f) h = cc

pub test_of-from : {P : Type 0} → (d : Dec P) → P → IsTrue (test_of d)
test_of-from (yes p) h = refl
test_of-from (no f) h = absurd (f h)

-- what is known not to fail holds
pub Dec-stable : {P : Type 0} → Dec P → ¬ (¬ P) → P
Dec-stable (yes p) h = p
Dec-stable (no f) h = absurd (h f)
