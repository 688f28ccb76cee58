-- A part has no mark that weighs anything: for each combinator, and for types.
use Rattle.std.proofs.Common.{◌≡◌, ℕ, zero, suc, ◌≤◌, ap, ◌∙◌, Bool, true, false, ◌⊎◌, List, [], ◌∷◌, ◌++◌, inl, inr, arith}
use Rattle.tm_parse.proofs.limits.Least.{Spells, WithComma, MayBe, AndOthers, LifetimeOrItems, LifetimesThen}
use Rattle.tm_parse.proofs.limits.Weights.{weigh, weigh-append}
use Rattle.tm_parse.specs.Combinators.{Others, Repeats}
use Rattle.tm_parse.specs.Events.{Mark, a_type, Role, Event, terminal, mark}
use Rattle.tm_parse.specs.Types.{array_type, reference_type, nonzero_type, wrapped_type, named_type, plain_type, behind_paren, one_level, type_part, read_none, SpellsType}
use Rattle.tm_parse.specs.declared.parsed.Expr.{Expr}
use Rattle.tm_parse.specs.declared.terminal.Terminal.{Terminal}

module _ (weight : Mark → ℕ) where
  pub record Without {V : Type 0} (P : Spells V) : Type 0 where
    pub none : (v : V) (e : List Event) → P v e → weigh weight e ≡ 0

module _ {weight : Mark → ℕ} where
  pub one_without : {role : Role} {Fits : Terminal → Type 0} → Without weight (λ t e. Fits t × (e ≡ terminal role t ∷ []))
  one_without = record { none = λ t e h. ap (weigh weight) h.1 }

  pub to_without : {A B : Type 0} {P : Spells A} {f : A → B} → Without weight P → Without weight (λ w e. (v : A) × P v e × (w ≡ f v))
  to_without x = record { none = λ w e h. x.none h.0 e h.1 }

  pub seq_without : {A B : Type 0} {P : Spells A} {Q : Spells B} → Without weight P → Without weight Q
      → Without weight {V = A × B} (λ v e. (f : List Event) × (g : List Event) × P v.0 f × Q v.1 g × (e ≡ f ++ g))
  seq_without x y = record { none = λ v e h. let a = x.none v.0 h.0 h.2 in let b = y.none v.1 h.1 h.3 in let c = ap (weigh weight) h.4 ∙ weigh-append weight h.0 h.1 in omega (arith, a, b, c) }

  pub or_without : {V : Type 0} {P Q : Spells V} → Without weight P → Without weight Q → Without weight (λ v e. P v e ⊎ Q v e)
  or_without {V = V} {P = P} {Q = Q} x y = record { none = either }
    where
      either : (v : V) (e : List Event) → P v e ⊎ Q v e → weigh weight e ≡ 0
      either v e (inl h) = x.none v e h
      either v e (inr h) = y.none v e h

  pub mark_without : {V : Type 0} {P : Spells V} {m : Mark} → weight m ≡ 0 → Without weight P → Without weight (λ v e. (inner : List Event) × P v inner × (e ≡ mark m ∷ inner))
  mark_without z x = record { none = λ v e h. let a = x.none v h.0 h.1 in let b = ap (weigh weight) h.2 in omega (arith, a, b, z) }

  pub repeat_without : {V : Type 0} {P : Spells (V × Bool)} → Without weight P → Without weight (Repeats P)
  repeat_without {V = V} {P = P} x = record { none = all }
    where
      rest : (more : Bool) (vs : List V) (g : List Event) → Others more (Repeats P vs g) vs g → (Repeats P vs g → weigh weight g ≡ 0) → weigh weight g ≡ 0
      rest true vs g h again = again h
      rest false vs g h again = ap (weigh weight) h.1

      all : (vs : List V) (e : List Event) → Repeats P vs e → weigh weight e ≡ 0
      all [] e h = ap (weigh weight) h
      all (v ∷ vs) e (more, f, g, s, t, eq) = let a = x.none (v, more) f s in let b = rest more vs g t (all vs g) in let c = ap (weigh weight) eq ∙ weigh-append weight f g in omega (arith, a, b, c)

  pub optional_without : {V : Type 0} {P : Spells V} → Without weight P → Without weight (MayBe P)
  optional_without x = or_without (to_without x) (record { none = λ v e h. ap (weigh weight) h.1 })

  pub listed_without : {V : Type 0} {P : Spells V} → Without weight P → Without weight (Repeats (WithComma P))
  listed_without {P = P} x = repeat_without {P = WithComma P} (to_without (seq_without x (optional_without one_without)))

  pub listed1_without : {V : Type 0} {P : Spells V} → Without weight P → Without weight (AndOthers P)
  listed1_without x = to_without (seq_without x (optional_without (seq_without one_without (listed_without x))))

  pub lifetimes_then_without : {A V : Type 0} {P : Spells A} {Q : Spells V} → Without weight P → Without weight Q → Without weight (LifetimesThen P Q)
  lifetimes_then_without {P = P} {Q = Q} x y = or_without (to_without (seq_without x (optional_without (seq_without one_without (repeat_without each))))) (to_without (listed1_without y))
    where
      each : Without weight (LifetimeOrItems P Q)
      each = or_without (to_without (to_without (seq_without x (optional_without one_without)))) (to_without (listed1_without y))

  -- a type, where the marks of types weigh nothing from a depth on

  module _ {S : Spells Expr} (inner : Without weight S) where
    pub behind_without : Without weight (behind_paren (type_part [] S read_none)).spells
    behind_without = or_without (to_without one_without) (to_without (seq_without inner (seq_without (optional_without (seq_without one_without (listed_without inner))) one_without)))

    array-without : Without weight (array_type (type_part [] S read_none)).spells
    array-without = to_without (seq_without one_without (seq_without inner (seq_without one_without (seq_without one_without one_without))))

    reference-without : Without weight (reference_type (type_part [] S read_none)).spells
    reference-without = to_without (seq_without one_without (seq_without one_without (seq_without (optional_without one_without) inner)))

    nonzero-without : Without weight (nonzero_type (type_part [] S read_none)).spells
    nonzero-without = to_without (seq_without one_without (to_without (seq_without one_without (seq_without one_without one_without))))

    wrapped-without : Without weight (wrapped_type (type_part [] S read_none)).spells
    wrapped-without = to_without (seq_without one_without (to_without (seq_without one_without (seq_without inner one_without))))

    named-without : Without weight (named_type (type_part [] S read_none)).spells
    named-without = to_without (seq_without one_without (optional_without (to_without (seq_without one_without (seq_without (lifetimes_then_without one_without inner) one_without)))))

    pub plain_without : Without weight (plain_type (type_part [] S read_none)).spells
    plain_without = or_without (to_without one_without) (or_without (to_without one_without) (or_without array-without (or_without reference-without
        (or_without nonzero-without (or_without (to_without one_without) (or_without wrapped-without named-without))))))

    pub level_without : Without weight (one_level (type_part [] S read_none)).spells
    level_without = or_without (to_without (seq_without one_without behind_without)) plain_without

  pub type_without : (n depth : ℕ) → ((k : ℕ) → depth ≤ k → weight (a_type k) ≡ 0) → Without weight (SpellsType depth n)
  unfolding SpellsType
  type_without zero depth z = record { none = λ v e h. absurd h }
  type_without (suc n) depth z = record { none = (mark_without (z depth (omega arith)) (level_without (type_without n (suc depth) (λ k l. z k (omega (arith, l)))))).none }
