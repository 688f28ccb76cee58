-- A part's marks weigh at least what its value counts: for each combinator.
use Rattle.std.proofs.Common.{◌≡◌, ℕ, ◌+◌, ◌≤◌, refl, ap, ◌∙◌, Bool, true, false, Option, Some, None, ◌⊎◌, List, [], ◌∷◌, ◌++◌, length, inl, inr, arith}
use Rattle.tm_parse.proofs.limits.Weights.{weigh, weigh-append}
use Rattle.tm_parse.specs.Combinators.{Others, Repeats}
use Rattle.tm_parse.specs.Events.{Mark, Event, mark}
use Rattle.tm_parse.specs.Shapes.{the, optional, is_there, and_others, in_two, and_then_others}
use Rattle.tm_parse.specs.Types.{places}
use Rattle.tm_parse.specs.declared.class.Class.TheVariants as c
use Rattle.tm_parse.specs.declared.terminal.Terminal.{Terminal}

module _ (weight : Mark → ℕ) where
  pub record AtLeast {V : Type 0} (number : V → ℕ) (P : V → List Event → Type 0) : Type 0 where
    pub least : (v : V) (e : List Event) → P v e → number v ≤ weigh weight e

-- the sum over a list
abbrev pub total : {V : Type 0} → (V → ℕ) → List V → ℕ
total number [] = 0
total number (v ∷ vs) = number v + total number vs

abbrev pub total_if : {V : Type 0} → (V → ℕ) → Option V → ℕ
total_if number None = 0
total_if number (Some v) = number v

pub total-one : {V : Type 0} (vs : List V) → total (λ v. 1) vs ≡ length vs
total-one [] = refl
total-one (v ∷ vs) = let others = total-one vs in omega (arith, others)

pub total-places : (ts : List Terminal) → length (places ts) ≡ length ts
total-places [] = refl
total-places (t ∷ ts) = let others = total-places ts in omega (arith, others)

abbrev pub Spells : Type 0 → Type 1
Spells V = V → List Event → Type 0

-- a part behind which a comma may stand
abbrev pub WithComma : {V : Type 0} → Spells V → Spells (V × Bool)
WithComma {V = V} P w e = (v : V × Option Terminal) × ((f : List Event) × (g : List Event) × P v.0 f × (optional (the c.Comma)).spells v.1 g × (e ≡ f ++ g)) × (w ≡ (v.0, is_there v.1))

-- what may be left out, and a list of at least one
abbrev pub MayBe : {V : Type 0} → Spells V → Spells (Option V)
MayBe {V = V} P w e = ((v : V) × P v e × (w ≡ Some v)) ⊎ ((w ≡ None) × (e ≡ []))

abbrev pub AndOthers : {V : Type 0} → Spells V → Spells (List V)
AndOthers {V = V} P w e = (v : V × Option (Terminal × List V)) × ((f : List Event) × (g : List Event) × P v.0 f
    × MayBe (λ u h. (a : List Event) × (b : List Event) × (the c.Comma).spells u.0 a × Repeats (WithComma P) u.1 b × (h ≡ a ++ b)) v.1 g × (e ≡ f ++ g)) × (w ≡ and_others v)

-- lifetimes and then items
abbrev pub LifetimeOrItems : {A V : Type 0} → Spells A → Spells V → Spells ((A ⊎ List V) × Bool)
LifetimeOrItems {A = A} {V = V} P Q w e = ((v : A × Bool) × WithComma P v e × (w ≡ (inl v.0, v.1))) ⊎ ((vs : List V) × AndOthers Q vs e × (w ≡ (inr vs, false)))

abbrev pub LifetimesThen : {A V : Type 0} → Spells A → Spells V → Spells (List A × List V)
LifetimesThen {A = A} {V = V} P Q w e = ((v : A × Option (Terminal × List (A ⊎ List V))) × ((f : List Event) × (g : List Event) × P v.0 f
    × MayBe (λ u h. (a : List Event) × (b : List Event) × (the c.Comma).spells u.0 a × Repeats (LifetimeOrItems P Q) u.1 b × (h ≡ a ++ b)) v.1 g × (e ≡ f ++ g)) × (w ≡ and_then_others v))
    ⊎ ((vs : List V) × AndOthers Q vs e × (w ≡ ([], vs)))

-- the sum over lifetimes, and over the items
abbrev pub total_two : {A V : Type 0} → (A → ℕ) → (V → ℕ) → List A × List V → ℕ
total_two m n v = total m v.0 + total n v.1

abbrev either_number : {A V : Type 0} → (A → ℕ) → (V → ℕ) → A ⊎ List V → ℕ
either_number m n (inl a) = m a
either_number m n (inr vs) = total n vs

two-total : {A V : Type 0} (m : A → ℕ) (n : V → ℕ) (us : List (A ⊎ List V)) → total_two m n (in_two us) ≤ total (either_number m n) us
two-total m n [] = omega arith
two-total m n (inl a ∷ us) = let others = two-total m n us in omega (arith, others)
two-total m n (inr vs ∷ us) = omega arith

module _ {weight : Mark → ℕ} where
  pub any_least : {V : Type 0} {P : Spells V} → AtLeast weight (λ v. 0) P
  any_least = record { least = λ v e h. omega arith }

  pub fewer : {V : Type 0} {P : Spells V} {m n : V → ℕ} → AtLeast weight m P → ((v : V) → n v ≤ m v) → AtLeast weight n P
  fewer x l = record { least = λ v e h. let a = x.least v e h in let b = l v in omega (arith, a, b) }

  pub to_least : {A B : Type 0} {P : Spells A} {f : A → B} {m : A → ℕ} {n : B → ℕ} → AtLeast weight m P → ((v : A) → n (f v) ≤ m v) → AtLeast weight n (λ w e. (v : A) × P v e × (w ≡ f v))
  to_least {n = n} x l = record { least = λ w e h. let a = x.least h.0 e h.1 in let b = l h.0 in let c = ap n h.2 in omega (arith, a, b, c) }

  pub seq_least : {A B : Type 0} {P : Spells A} {Q : Spells B} {m : A → ℕ} {n : B → ℕ} → AtLeast weight m P → AtLeast weight n Q
      → AtLeast weight {V = A × B} (λ v. m v.0 + n v.1) (λ v e. (f : List Event) × (g : List Event) × P v.0 f × Q v.1 g × (e ≡ f ++ g))
  seq_least x y = record { least = λ v e h. let a = x.least v.0 h.0 h.2 in let b = y.least v.1 h.1 h.3 in let c = ap (weigh weight) h.4 ∙ weigh-append weight h.0 h.1 in omega (arith, a, b, c) }

  pub or_least : {V : Type 0} {P Q : Spells V} {n : V → ℕ} → AtLeast weight n P → AtLeast weight n Q → AtLeast weight n (λ v e. P v e ⊎ Q v e)
  or_least {V = V} {P = P} {Q = Q} {n = n} x y = record { least = either }
    where
      either : (v : V) (e : List Event) → P v e ⊎ Q v e → n v ≤ weigh weight e
      either v e (inl h) = x.least v e h
      either v e (inr h) = y.least v e h

  pub mark_least : {V : Type 0} {P : Spells V} {m : Mark} {n : V → ℕ} → AtLeast weight n P → AtLeast weight (λ v. weight m + n v) (λ v e. (inner : List Event) × P v inner × (e ≡ mark m ∷ inner))
  mark_least x = record { least = λ v e h. let a = x.least v h.0 h.1 in let b = ap (weigh weight) h.2 in omega (arith, a, b) }

  pub repeat_least : {V : Type 0} {P : Spells (V × Bool)} {m : V × Bool → ℕ} {n : V → ℕ} → AtLeast weight m P → ((v : V) (more : Bool) → n v ≤ m (v, more)) → AtLeast weight (total n) (Repeats P)
  repeat_least {V = V} {P = P} {n = n} x l = record { least = all }
    where
      rest : (more : Bool) (vs : List V) (g : List Event) → Others more (Repeats P vs g) vs g → (Repeats P vs g → total n vs ≤ weigh weight g) → total n vs ≤ weigh weight g
      rest true vs g h again = again h
      rest false vs g h again = let a = ap (total n) h.0 in omega (arith, a)

      all : (vs : List V) (e : List Event) → Repeats P vs e → total n vs ≤ weigh weight e
      all [] e h = omega arith
      all (v ∷ vs) e (more, f, g, s, t, eq) = let a = x.least (v, more) f s in let b = rest more vs g t (all vs g) in let c = ap (weigh weight) eq ∙ weigh-append weight f g in let d = l v more in omega (arith, a, b, c, d)

  pub many_least : {V : Type 0} {P : Spells V} {n : V → ℕ} → AtLeast weight n P → AtLeast weight (total n) (Repeats (λ w e. (v : V) × P v e × (w ≡ (v, true))))
  many_least {n = n} x = repeat_least (to_least {n = λ w. n w.0} x (λ v. omega arith)) (λ v more. omega arith)

  pub listed_least : {V : Type 0} {P : Spells V} {n : V → ℕ} → AtLeast weight n P → AtLeast weight (total n) (Repeats (WithComma P))
  listed_least {n = n} x = repeat_least (to_least {n = λ w. n w.0} (seq_least x any_least) (λ v. omega arith)) (λ v more. omega arith)

  pub optional_least : {V : Type 0} {P : Spells V} {n : V → ℕ} → AtLeast weight n P → AtLeast weight (total_if n) (MayBe P)
  optional_least {n = n} x = or_least (to_least x (λ v. omega arith)) (record { least = λ v e h. let a = ap (total_if n) h.0 in omega (arith, a) })

  pub listed1_least : {V : Type 0} {P : Spells V} {n : V → ℕ} → AtLeast weight n P → AtLeast weight (total n) (AndOthers P)
  listed1_least {V = V} {n = n} x = to_least (seq_least x (optional_least (seq_least any_least (listed_least x)))) sums
    where
      sums : (v : V × Option (Terminal × List V)) → total n (and_others v) ≤ n v.0 + total_if (λ w. 0 + total n w.1) v.1
      sums (v, None) = omega arith
      sums (v, Some others) = omega arith

  pub lifetimes_then_least : {A V : Type 0} {P : Spells A} {Q : Spells V} {m : A → ℕ} {n : V → ℕ} → AtLeast weight m P → AtLeast weight n Q → AtLeast weight (total_two m n) (LifetimesThen P Q)
  lifetimes_then_least {A = A} {V = V} {P = P} {Q = Q} {m = m} {n = n} x y = or_least (to_least (seq_least x (optional_least (seq_least any_least (repeat_least each (λ u more. omega arith))))) sums) (to_least (listed1_least y) (λ vs. omega arith))
    where
      each : AtLeast weight (λ w. either_number m n w.0) (LifetimeOrItems P Q)
      each = or_least (to_least (to_least {n = λ w. m w.0} (seq_least x any_least) (λ v. omega arith)) (λ v. omega arith)) (to_least (listed1_least y) (λ vs. omega arith))

      sums : (v : A × Option (Terminal × List (A ⊎ List V))) → total_two m n (and_then_others v) ≤ m v.0 + total_if (λ w. 0 + total (either_number m n) w.1) v.1
      sums (v, None) = omega arith
      sums (v, Some others) = let all = two-total m n others.1 in omega (arith, all)
