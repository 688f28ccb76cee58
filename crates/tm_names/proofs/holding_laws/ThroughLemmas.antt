-- Ways that are found by admitting one number after another are the ways that there are.
use Rattle.std.proofs.Common.{◌≡◌, ℕ, zero, suc, ◌<◌, refl, sym, ap, ◌∙◌, subst, arith, inl, inr, ◌⊎◌, ⊎_elim, Bool, true, false, ◌||◌, ◌&&◌}
use Rattle.std.proofs.lemmas.Bool.{false≢true}
use Rattle.tm_base.specs.Reaches.{Chain, ChainIn}
use Rattle.tm_names.specs.Closures.{through}

-- parts of a test
or_cases : (a b : Bool) → (a || b) ≡ true → (a ≡ true) ⊎ (b ≡ true)
or_cases true b h = inl refl
or_cases false b h = inr h

or_left : (a b : Bool) → a ≡ true → (a || b) ≡ true
or_left a b e = ap (λ c. c || b) e

or_right : (a b : Bool) → b ≡ true → (a || b) ≡ true
or_right true b e = refl
or_right false b e = e

and_parts : (a b : Bool) → (a && b) ≡ true → (a ≡ true) × (b ≡ true)
and_parts true b h = (refl, h)
and_parts false b h = absurd (false≢true h)

both : (a b : Bool) → a ≡ true → b ≡ true → (a && b) ≡ true
both a b e f = ap (λ c. c && b) e ∙ f

-- a way of one step at least
pub record Way {X : Type 0} (Step : X → X → Type 0) (a b : X) : Type 0 where
  pub next : X
  pub first : Step a next
  pub rest : Chain Step next b

module _ {X : Type 0} (Step : X → X → Type 0) where
  joined : (n : ℕ) (a b c : X) → ChainIn Step n a b → Chain Step b c → Chain Step a c
  unfolding ChainIn
  joined zero a b c e rest = subst (λ z. Chain Step z c) (sym e) rest
  joined (suc n) a b c (next, step, more) rest = let found = joined n next b c more rest in (suc found.0, (next, step, found.1))

  one_step : (a b : X) → Step a b → Chain Step a b
  unfolding ChainIn
  one_step a b s = (1, (b, s, refl))

  pub way_of_step : (a b : X) → Step a b → Way Step a b
  unfolding ChainIn
  way_of_step a b s = record { next = b; first = s; rest = (0, refl) }

  pub ways : (a b c : X) → Way Step a b → Way Step b c → Way Step a c
  unfolding ChainIn
  ways a b c p q = record { next = p.next; first = p.first; rest = joined p.rest.0 p.next b c p.rest.1 (suc q.rest.0, (q.next, q.first, q.rest.1)) }

module _ (edge : ℕ → ℕ → Bool) where
  abbrev Edge : ℕ → ℕ → Type 0
  Edge i j = edge i j ≡ true

  pub through_is_way : (k i j : ℕ) → through edge k i j ≡ true → Way Edge i j
  through_is_way zero i j h = way_of_step Edge i j h
  through_is_way (suc k) i j h =
      ⊎_elim (λ e. through_is_way k i j e)
      (λ e. let parts = and_parts (through edge k i k) (through edge k k j) e in
      ways Edge i k j (through_is_way k i k parts.0) (through_is_way k k j parts.1))
      (or_cases (through edge k i j) (through edge k i k && through edge k k j) h)

  pub one_way : (k i j : ℕ) → edge i j ≡ true → through edge k i j ≡ true
  one_way zero i j h = h
  one_way (suc k) i j h = or_left (through edge k i j) (through edge k i k && through edge k k j) (one_way k i j h)

  abbrev over : ℕ → ℕ → ℕ → Bool
  over k i j = through edge k i k && through edge k k j

  via : (k i j : ℕ) → through edge k i k ≡ true → through edge k k j ≡ true → through edge (suc k) i j ≡ true
  via k i j p q = or_right (through edge k i j) (over k i j) (both (through edge k i k) (through edge k k j) p q)

  longer : (k i j : ℕ) → through edge k i j ≡ true → through edge (suc k) i j ≡ true
  longer k i j p = or_left (through edge k i j) (over k i j) p

  -- a way to the number just admitted, or from it, is one without it
  to_last : (k i : ℕ) → through edge (suc k) i k ≡ true → through edge k i k ≡ true
  to_last k i h = ⊎_elim (λ e. e) (λ e. (and_parts (through edge k i k) (through edge k k k) e).0) (or_cases (through edge k i k) (over k i k) h)

  from_last : (k j : ℕ) → through edge (suc k) k j ≡ true → through edge k k j ≡ true
  from_last k j h = ⊎_elim (λ e. e) (λ e. (and_parts (through edge k k k) (through edge k k j) e).1) (or_cases (through edge k k j) (over k k j) h)

  which : (m k : ℕ) → m < suc k → (m ≡ k) ⊎ (m < k)
  which m k h = grind (arith, h)

  -- ways through admitted numbers join at an admitted number
  pub through_joins : (k i m j : ℕ) → m < k → through edge k i m ≡ true → through edge k m j ≡ true → through edge k i j ≡ true
  through_joins zero i m j l p q = absurd (omega (arith, l))
  through_joins (suc k) i m j l p q =
      ⊎_elim
      (λ e. via k i j (to_last k i (subst (λ z. through edge (suc k) i z ≡ true) e p)) (from_last k j (subst (λ z. through edge (suc k) z j ≡ true) e q)))
      (λ less. ⊎_elim
      (λ p1. ⊎_elim
      (λ q1. longer k i j (through_joins k i m j less p1 q1))
      (λ q2. let b = and_parts (through edge k m k) (through edge k k j) q2 in via k i j (through_joins k i m k less p1 b.0) b.1)
      (or_cases (through edge k m j) (over k m j) q))
      (λ p2. let a = and_parts (through edge k i k) (through edge k k m) p2 in ⊎_elim
      (λ q1. via k i j a.0 (through_joins k k m j less a.1 q1))
      (λ q2. let b = and_parts (through edge k m k) (through edge k k j) q2 in via k i j a.0 b.1)
      (or_cases (through edge k m j) (over k m j) q))
      (or_cases (through edge k i m) (over k i m) p))
      (which m k l)

  led : (n : ℕ) → ((a b : ℕ) → edge a b ≡ true → (a < n) × (b < n)) → (steps i m j : ℕ) → edge i m ≡ true → ChainIn Edge steps m j → through edge n i j ≡ true
  unfolding ChainIn
  led n within zero i m j p e = subst (λ z. through edge n i z ≡ true) e (one_way n i m p)
  led n within (suc steps) i m j p (next, q, more) =
      through_joins n i m j (within i m p).1 (one_way n i m p) (led n within steps m next j q more)

  -- where all numbers are admitted, each way is found
  pub way_is_through : (n : ℕ) → ((a b : ℕ) → edge a b ≡ true → (a < n) × (b < n)) → (i j : ℕ) → Way Edge i j → through edge n i j ≡ true
  way_is_through n within i j w = led n within w.rest.0 i w.next j w.first w.rest.1
