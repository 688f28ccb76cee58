-- What a step of counting comes to: an event passes the limit that it is too much for.
use Rattle.std.proofs.Common.{◌≡◌, ◌⊎◌, ℕ, ◌<◌, ◌≤◌, refl, sym, ap, ◌∙◌, subst, inl, inr, Bool, true, false, if◌then◌else◌, List, [], ◌∷◌, ◌++◌, arith}
use Rattle.std.specs.Prelude.{nat_lt}
use Rattle.std.proofs.lemmas.Bool.{ltb-true, ltb-false}
use Rattle.tm_parse.specs.Events.{Mark, a_definition, a_question, a_lifetime, a_parameter, a_type_parameter, a_field, a_variant, a_type, Role, plain, array_length, Event, terminal, mark}
use Rattle.tm_parse.specs.Counting.{Step, Fine, Passes, within, and_then, name_bytes, step}
use Rattle.tm_parse.specs.Limits.{limit_on, number_since, nesting, number_of, length_of, is_number_or_sign, name_size, Exceeds}
use Rattle.tm_base.specs.declared.limit.LimitKind.{LimitKind}
use Rattle.tm_base.specs.declared.limit.LimitKind.TheVariants as limit
use Rattle.tm_base.specs.Limits.{limit_number}
use Rattle.tm_parse.specs.declared.class.Class.{Class}
use Rattle.tm_parse.specs.declared.counts.Counts.{Counts}
use Rattle.tm_parse.specs.declared.terminal.Terminal.{Terminal}
use Rattle.tm_parse.proofs.limits.Weights.{marked}
use Rattle.tm_parse.proofs.limits.LimitNumbers.{AreCounted, count_of, counted-mark, counted-terminal}

-- an event is held against two limits in turn
abbrev both : LimitKind → ℕ → Counts → LimitKind → ℕ → Counts → Step
both k m c l n d = and_then (within k m c) (within l n d)

within-cases : (kind : LimitKind) (n : ℕ) (after : Counts) → ((within kind n after ≡ Fine after) × (n ≤ limit_number kind)) ⊎ ((within kind n after ≡ Passes kind) × (limit_number kind < n))
within-cases kind n after = go (nat_lt (limit_number kind) n) refl
  where
    go : (b : Bool) → nat_lt (limit_number kind) n ≡ b → ((within kind n after ≡ Fine after) × (n ≤ limit_number kind)) ⊎ ((within kind n after ≡ Passes kind) × (limit_number kind < n))
    go true e = inr (ap (λ b. if b then Passes kind else Fine after) e, ltb-true (limit_number kind) n e)
    go false e = inl (ap (λ b. if b then Passes kind else Fine after) e, ltb-false (limit_number kind) n e)

module _ (k : LimitKind) (m : ℕ) (c : Counts) (l : LimitKind) (n : ℕ) (d : Counts) where
  -- it passes neither, or the first, or the second alone
  data Held : Type 0 where
    fine : both k m c l n d ≡ Fine d → m ≤ limit_number k → n ≤ limit_number l → Held
    first : both k m c l n d ≡ Passes k → limit_number k < m → Held
    second : both k m c l n d ≡ Passes l → m ≤ limit_number k → limit_number l < n → Held

  held : Held
  held = go (within-cases k m c) (within-cases l n d)
    where
      go : ((within k m c ≡ Fine c) × (m ≤ limit_number k)) ⊎ ((within k m c ≡ Passes k) × (limit_number k < m))
          → ((within l n d ≡ Fine d) × (n ≤ limit_number l)) ⊎ ((within l n d ≡ Passes l) × (limit_number l < n)) → Held
      go (inl f) (inl g) = fine (ap (λ s. and_then s (within l n d)) f.0 ∙ g.0) f.1 g.1
      go (inl f) (inr g) = second (ap (λ s. and_then s (within l n d)) f.0 ∙ g.0) f.1 g.1
      go (inr f) g = first (ap (λ s. and_then s (within l n d)) f.0) f.1

step-mark : (c : Counts) (m : Mark) → step c (mark m) ≡ both limit.Nesting (nesting m) c (limit_on m) (count_of m (marked c m)) (marked c m)
unfolding step
step-mark c a_definition = refl
step-mark c a_question = refl
step-mark c a_lifetime = refl
step-mark c a_parameter = refl
step-mark c a_type_parameter = refl
step-mark c a_field = refl
step-mark c a_variant = refl
step-mark c (a_type depth) = refl

name-within : (c : Counts) (t : Terminal) → name_bytes c t ≡ within limit.NameBytes (name_size t) c
name-within c t = go (is_number_or_sign t.class)
  where
    go : (b : Bool) → (if b then Fine c else within limit.NameBytes t.size c) ≡ within limit.NameBytes (if b then 0 else t.size) c
    go true = refl
    go false = refl

step-terminal : (c : Counts) (role : Role) (t : Terminal) → step c (terminal role t) ≡ both limit.ArrayLength (length_of role t) c limit.NameBytes (name_size t) c
unfolding step
step-terminal c plain t = name-within c t
step-terminal c array_length t = ap (λ s. and_then (within limit.ArrayLength (number_of t) c) s) (name-within c t)

-- what has a number has no name
number-unnamed : (t : Terminal) → 0 < number_of t → name_size t ≡ 0
number-unnamed t h = go t.class h
  where
    go : (k : Class) → 0 < number_of (record t { class = k }) → (if is_number_or_sign k then 0 else t.size) ≡ 0
    go k h = grind arith

-- what a step comes to, for what is counted before it
module _ (front : List Event) (c : Counts) (are : AreCounted front c) where
  number-with : (m : Mark) → number_since m (front ++ mark m ∷ []) ≡ count_of m (marked c m)
  number-with m = sym ((counted-mark front c m are).each m)

  -- it is fine, and nothing is too much; or it passes what the event is too much for
  pub data Stepped (x : Event) : Type 0 where
    fine : (d : Counts) → step c x ≡ Fine d → AreCounted (front ++ x ∷ []) d → ((kind : LimitKind) → ¬ Exceeds kind front x) → Stepped x
    passes : (kind : LimitKind) → step c x ≡ Passes kind → Exceeds kind front x → (kind ≡ limit.TypeNodes → ¬ Exceeds limit.Nesting front x)
        → ((other : LimitKind) → Exceeds other front x → (other ≡ limit.TypeNodes → ¬ Exceeds limit.Nesting front x) → kind ≡ other) → Stepped x

  no-sort : (m : Mark) → limit_on m ≡ limit.Nesting → ⊥
  no-sort m h = grind arith

  only-types : (m : Mark) → limit_on m ≡ limit.TypeNodes ⊎ (nesting m ≡ 0)
  only-types a_definition = inr refl
  only-types a_question = inr refl
  only-types a_lifetime = inr refl
  only-types a_parameter = inr refl
  only-types a_type_parameter = inr refl
  only-types a_field = inr refl
  only-types a_variant = inr refl
  only-types (a_type depth) = inl refl

  too-many : (m : Mark) (l : limit_number (limit_on m) < count_of m (marked c m)) → Exceeds (limit_on m) front (mark m)
  too-many m l = inr (refl, subst (λ n. limit_number (limit_on m) < n) (sym (number-with m)) l)

  are-many : (m : Mark) → limit_number (limit_on m) < number_since m (front ++ mark m ∷ []) → limit_number (limit_on m) < count_of m (marked c m)
  are-many m l = subst (λ n. limit_number (limit_on m) < n) (number-with m) l

  not-nested : (m : Mark) → nesting m ≤ limit_number limit.Nesting → ¬ Exceeds limit.Nesting front (mark m)
  not-nested m l (inl h) = let a = h.1 in absurd (omega arith)
  not-nested m l (inr h) = no-sort m (sym h.0)

  stepped-mark : (m : Mark) → Stepped (mark m)
  stepped-mark m = go (held limit.Nesting (nesting m) c (limit_on m) (count_of m (marked c m)) (marked c m))
    where
      go : Held limit.Nesting (nesting m) c (limit_on m) (count_of m (marked c m)) (marked c m) → Stepped (mark m)
      go (Held.fine e k l) = fine (marked c m) (step-mark c m ∙ e) (counted-mark front c m are) none
        where
          none : (kind : LimitKind) → ¬ Exceeds kind front (mark m)
          none kind (inl h) = let a = h.1 in absurd (omega arith)
          none kind (inr h) = let a = are-many m (subst (λ (k : LimitKind). limit_number k < number_since m (front ++ mark m ∷ [])) h.0 h.1) in absurd (omega arith)
      go (Held.first e l) = passes limit.Nesting (step-mark c m ∙ e) (inl (refl, l)) (λ h. absurd cc) only
        where
          only : (other : LimitKind) → Exceeds other front (mark m) → (other ≡ limit.TypeNodes → ¬ Exceeds limit.Nesting front (mark m)) → limit.Nesting ≡ other
          only other (inl h) g = sym h.0
          only other (inr h) g = elim (only-types m) [
            | inl t ↦ absurd (g (h.0 ∙ t) (inl (refl, l)))
            | inr z ↦ absurd (omega (arith, l, z))
          ]
      go (Held.second e k l) = passes (limit_on m) (step-mark c m ∙ e) (too-many m l) (λ h. not-nested m k) only
        where
          only : (other : LimitKind) → Exceeds other front (mark m) → (other ≡ limit.TypeNodes → ¬ Exceeds limit.Nesting front (mark m)) → limit_on m ≡ other
          only other (inl h) g = absurd (not-nested m k (inl (refl, h.1)))
          only other (inr h) g = sym h.0

  stepped-terminal : (role : Role) (t : Terminal) → Stepped (terminal role t)
  stepped-terminal role t = go (held limit.ArrayLength (length_of role t) c limit.NameBytes (name_size t) c)
    where
      go : Held limit.ArrayLength (length_of role t) c limit.NameBytes (name_size t) c → Stepped (terminal role t)
      go (Held.fine e k l) = fine c (step-terminal c role t ∙ e) (counted-terminal front c role t are) none
        where
          none : (kind : LimitKind) → ¬ Exceeds kind front (terminal role t)
          none kind (inl h) = let a = h.1 in absurd (omega arith)
          none kind (inr h) = let a = h.1 in absurd (omega arith)
      go (Held.first e l) = passes limit.ArrayLength (step-terminal c role t ∙ e) (inl (refl, l)) (λ h. absurd cc) only
        where
          long : (role : Role) → limit_number limit.ArrayLength < length_of role t → 0 < number_of t
          long plain h = absurd (omega arith)
          long array_length h = omega arith

          only : (other : LimitKind) → Exceeds other front (terminal role t) → (other ≡ limit.TypeNodes → ¬ Exceeds limit.Nesting front (terminal role t)) → limit.ArrayLength ≡ other
          only other (inl h) g = sym h.0
          only other (inr h) g = let z = number-unnamed t (long role l) in let a = h.1 in absurd (omega arith)
      go (Held.second e k l) = passes limit.NameBytes (step-terminal c role t ∙ e) (inr (refl, l)) (λ h. absurd cc) only
        where
          only : (other : LimitKind) → Exceeds other front (terminal role t) → (other ≡ limit.TypeNodes → ¬ Exceeds limit.Nesting front (terminal role t)) → limit.NameBytes ≡ other
          only other (inl h) g = let a = h.1 in absurd (omega arith)
          only other (inr h) g = sym h.0

  pub stepped : (x : Event) → Stepped x
  stepped (mark m) = stepped-mark m
  stepped (terminal role t) = stepped-terminal role t
