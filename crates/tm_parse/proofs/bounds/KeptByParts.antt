-- What is kept of each value that a part spells, for each combinator. The events are some of a file's: they
-- are counted within the limits, from some counts on, and each terminal is as it is asked.
use Rattle.std.proofs.Common.{◌≡◌, ◌⊎◌, refl, sym, subst, Bool, true, false, Option, Some, None, IfSome, List, [], ◌∷◌, ◌++◌, All, inl, inr}
use Rattle.std.proofs.lemmas.List.Elements.{All-nil, All-cons, All-head, All-tail}
use Rattle.tm_parse.proofs.limits.Least.{Spells, WithComma, MayBe, AndOthers, LifetimeOrItems, LifetimesThen}
use Rattle.tm_parse.specs.Classes.{among}
use Rattle.tm_parse.specs.Combinators.{Others, Repeats}
use Rattle.tm_parse.specs.Events.{Mark, Role, Event, terminal, mark, terminals}
use Rattle.tm_parse.specs.Counting.{Step, Fine, Passes, step, Within, counted, count}
use Rattle.tm_parse.specs.Shapes.{and_others, in_two, and_then_others, or_neither}
use Rattle.tm_parse.specs.declared.class.Class.{Class}
use Rattle.tm_parse.specs.declared.counts.Counts.{Counts}
use Rattle.tm_parse.specs.declared.terminal.Terminal.{Terminal}

-- each terminal of the events is so
abbrev pub Each : (Terminal → Type 0) → List Event → Type 0
Each Is [] = Unit {0}
Each Is (terminal role t ∷ e) = Is t × Each Is e
Each Is (mark m ∷ e) = Each Is e

each-parts : (Is : Terminal → Type 0) (f g : List Event) → Each Is (f ++ g) → Each Is f × Each Is g
each-parts Is [] g h = (tt, h)
each-parts Is (terminal role t ∷ f) g h = let others = each-parts Is f g h.1 in ((h.0, others.0), others.1)
each-parts Is (mark m ∷ f) g h = each-parts Is f g h

pub count-parts : (c d : Counts) (f g : List Event) → count c (f ++ g) ≡ Within d → (m : Counts) × (count c f ≡ Within m) × (count m g ≡ Within d)
count-parts c d [] g h = (c, refl, h)
count-parts c d (x ∷ f) g h = go (step c x) h (λ b. count-parts b d f g)
  where
    go : (s : Step) → counted s (x ∷ (f ++ g)) (λ y. count y (f ++ g)) ≡ Within d → ((b : Counts) → count b (f ++ g) ≡ Within d → (m : Counts) × (count b f ≡ Within m) × (count m g ≡ Within d))
        → (m : Counts) × (counted s (x ∷ f) (λ y. count y f) ≡ Within m) × (count m g ≡ Within d)
    go (Fine b) h again = again b h
    go (Passes kind) h again = absurd cc

pub each-terminals : (Is : Terminal → Type 0) (e : List Event) → All Is (terminals e) → Each Is e
each-terminals Is [] h = tt
each-terminals Is (terminal role t ∷ e) h = (All-head Is t (terminals e) h, each-terminals Is e (All-tail Is t (terminals e) h))
each-terminals Is (mark m ∷ e) h = each-terminals Is e h

-- events of a file
pub record IsGood (Is : Terminal → Type 0) (e : List Event) : Type 0 where
  pub before : Counts
  pub after : Counts
  pub within : count before e ≡ Within after
  pub each : Each Is e

module _ {Is : Terminal → Type 0} where
  good-parts : (e f g : List Event) → e ≡ f ++ g → IsGood Is e → IsGood Is f × IsGood Is g
  good-parts e f g eq h =
      let counts = count-parts h.before h.after f g (subst (λ e. count h.before e ≡ Within h.after) eq h.within) in
      let each = each-parts Is f g (subst (Each Is) eq h.each) in
      (record { before = h.before; after = counts.0; within = counts.1; each = each.0 }, record { before = counts.0; after = h.after; within = counts.2; each = each.1 })

module _ (Is : Terminal → Type 0) where
  pub record Keeps {V : Type 0} (Kept : V → Type 0) (P : Spells V) : Type 0 where
    pub kept : (v : V) (e : List Event) → P v e → IsGood Is e → Kept v

module _ {Is : Terminal → Type 0} where
  pub any_keeps : {V : Type 0} {P : Spells V} {K : V → Type 0} → ((v : V) → K v) → Keeps Is K P
  any_keeps all = record { kept = λ v e h good. all v }

  -- of a part's value nothing is kept
  pub skipped : {V : Type 0} {P : Spells V} → Keeps Is (λ v. Unit {0}) P
  skipped = any_keeps (λ v. tt)

  pub one_keeps : {role : Role} (classes : List Class) {K : Terminal → Type 0} → ((t : Terminal) → among classes t.class ≡ true → Is t → K t) → Keeps Is K (λ t e. (among classes t.class ≡ true) × (e ≡ terminal role t ∷ []))
  one_keeps classes keeps = record { kept = λ t e h good. keeps t h.0 (subst (Each Is) h.1 good.each).0 }

  -- a terminal, of which is kept what is asked of each
  pub word_keeps : {role : Role} {Fits : Terminal → Type 0} → Keeps Is Is (λ t e. Fits t × (e ≡ terminal role t ∷ []))
  word_keeps = record { kept = λ t e h good. (subst (Each Is) h.1 good.each).0 }

  pub to_keeps : {A B : Type 0} {P : Spells A} {f : A → B} {K : A → Type 0} {L : B → Type 0} → Keeps Is K P → ((v : A) → K v → L (f v)) → Keeps Is L (λ w e. (v : A) × P v e × (w ≡ f v))
  to_keeps {L = L} x keeps = record { kept = λ w e h good. subst L (sym h.2) (keeps h.0 (x.kept h.0 e h.1 good)) }

  pub seq_keeps : {A B : Type 0} {P : Spells A} {Q : Spells B} {K : A → Type 0} {L : B → Type 0} → Keeps Is K P → Keeps Is L Q
      → Keeps Is {V = A × B} (λ v. K v.0 × L v.1) (λ v e. (f : List Event) × (g : List Event) × P v.0 f × Q v.1 g × (e ≡ f ++ g))
  seq_keeps x y = record { kept = λ v e h good. let parts = good-parts e h.0 h.1 h.4 good in (x.kept v.0 h.0 h.2 parts.0, y.kept v.1 h.1 h.3 parts.1) }

  pub or_keeps : {V : Type 0} {P Q : Spells V} {K : V → Type 0} → Keeps Is K P → Keeps Is K Q → Keeps Is K (λ v e. P v e ⊎ Q v e)
  or_keeps {V = V} {P = P} {Q = Q} {K = K} x y = record { kept = either }
    where
      either : (v : V) (e : List Event) → P v e ⊎ Q v e → IsGood Is e → K v
      either v e (inl h) good = x.kept v e h good
      either v e (inr h) good = y.kept v e h good

  pub mark_keeps : {V : Type 0} {P : Spells V} {m : Mark} {K : V → Type 0} → Keeps Is K P → Keeps Is K (λ v e. (inner : List Event) × P v inner × (e ≡ mark m ∷ inner))
  mark_keeps {m = m} x = record { kept = λ v e h good. x.kept v h.0 h.1 (good-parts e (mark m ∷ []) h.0 h.2 good).1 }

  pub repeat_keeps : {V : Type 0} {P : Spells (V × Bool)} {K : V × Bool → Type 0} {L : V → Type 0} → Keeps Is K P → ((v : V) (more : Bool) → K (v, more) → L v) → Keeps Is (All L) (Repeats P)
  repeat_keeps {V = V} {P = P} {L = L} x keeps = record { kept = all }
    where
      rest : (more : Bool) (vs : List V) (g : List Event) → Others more (Repeats P vs g) vs g → IsGood Is g → (Repeats P vs g → IsGood Is g → All L vs) → All L vs
      rest true vs g h good again = again h good
      rest false vs g h good again = subst (All L) (sym h.0) (All-nil L)

      all : (vs : List V) (e : List Event) → Repeats P vs e → IsGood Is e → All L vs
      all [] e h good = All-nil L
      all (v ∷ vs) e (more, f, g, s, t, eq) good = let parts = good-parts e f g eq good in
          All-cons L v vs (keeps v more (x.kept (v, more) f s parts.0)) (rest more vs g t parts.1 (all vs g))

  pub many_keeps : {V : Type 0} {P : Spells V} {K : V → Type 0} → Keeps Is K P → Keeps Is (All K) (Repeats (λ w e. (v : V) × P v e × (w ≡ (v, true))))
  many_keeps {K = K} x = repeat_keeps (to_keeps {L = λ w. K w.0} x (λ v k. k)) (λ v more k. k)

  pub listed_keeps : {V : Type 0} {P : Spells V} {K : V → Type 0} → Keeps Is K P → Keeps Is (All K) (Repeats (WithComma P))
  listed_keeps {K = K} x = repeat_keeps (to_keeps {L = λ w. K w.0} (seq_keeps x skipped) (λ v k. k.0)) (λ v more k. k)

  pub optional_keeps : {V : Type 0} {P : Spells V} {K : V → Type 0} → Keeps Is K P → Keeps Is (λ o. IfSome o K) (MayBe P)
  optional_keeps {K = K} x = or_keeps (to_keeps x (λ v k. k)) (record { kept = λ w e h good. subst (λ o. IfSome o K) (sym h.0) tt })

  pub listed1_keeps : {V : Type 0} {P : Spells V} {K : V → Type 0} → Keeps Is K P → Keeps Is (All K) (AndOthers P)
  listed1_keeps {V = V} {K = K} x = to_keeps (seq_keeps x (optional_keeps (seq_keeps skipped (listed_keeps x)))) all
    where
      all : (v : V × Option (Terminal × List V)) → K v.0 × IfSome v.1 (λ u. Unit {0} × All K u.1) → All K (and_others v)
      all (v, None) k = All-cons K v [] k.0 (All-nil K)
      all (v, Some others) k = All-cons K v others.1 k.0 k.1.1

-- of lifetimes, and of the items behind them
abbrev pub KeptTwo : {A V : Type 0} → (A → Type 0) → (V → Type 0) → List A × List V → Type 0
KeptTwo K M v = All K v.0 × All M v.1

pub kept-neither : {A V : Type 0} (K : A → Type 0) (M : V → Type 0) (v : Option (List A × List V)) → IfSome v (KeptTwo K M) → KeptTwo K M (or_neither v)
kept-neither K M None k = (All-nil K, All-nil M)
kept-neither K M (Some both) k = k

module _ {A V : Type 0} (K : A → Type 0) (M : V → Type 0) where
  abbrev KeptEither : A ⊎ List V → Type 0
  KeptEither (inl a) = K a
  KeptEither (inr vs) = All M vs

  kept-two : (us : List (A ⊎ List V)) → All KeptEither us → KeptTwo K M (in_two us)
  kept-two [] h = (All-nil K, All-nil M)
  kept-two (inl a ∷ us) h = let others = kept-two us (All-tail KeptEither (inl a) us h) in (All-cons K a (in_two us).0 (All-head KeptEither (inl a) us h) others.0, others.1)
  kept-two (inr vs ∷ us) h = (All-nil K, All-head KeptEither (inr vs) us h)

  kept-others : (v : A × Option (Terminal × List (A ⊎ List V))) → K v.0 × IfSome v.1 (λ u. Unit {0} × All KeptEither u.1) → KeptTwo K M (and_then_others v)
  kept-others (v, None) k = (All-cons K v [] k.0 (All-nil K), All-nil M)
  kept-others (v, Some others) k = kept-two (inl v ∷ others.1) (All-cons KeptEither (inl v) others.1 k.0 k.1.1)

  module _ {Is : Terminal → Type 0} {P : Spells A} {Q : Spells V} (x : Keeps Is K P) (y : Keeps Is M Q) where
    each-keeps : Keeps Is (λ w. KeptEither w.0) (LifetimeOrItems P Q)
    each-keeps = or_keeps (to_keeps (to_keeps {L = λ w. K w.0} (seq_keeps x skipped) (λ v k. k.0)) (λ v k. k)) (to_keeps (listed1_keeps y) (λ vs k. k))

    both-keeps : Keeps Is (KeptTwo K M) (LifetimesThen P Q)
    both-keeps = or_keeps (to_keeps (seq_keeps x (optional_keeps (seq_keeps skipped (repeat_keeps each-keeps (λ u more k. k))))) kept-others) (to_keeps (listed1_keeps y) (λ vs k. (All-nil K, k)))

pub lifetimes_then_keeps : {Is : Terminal → Type 0} {A V : Type 0} {P : Spells A} {Q : Spells V} {K : A → Type 0} {M : V → Type 0} → Keeps Is K P → Keeps Is M Q → Keeps Is (KeptTwo K M) (LifetimesThen P Q)
lifetimes_then_keeps {K = K} {M = M} x y = both-keeps K M x y
