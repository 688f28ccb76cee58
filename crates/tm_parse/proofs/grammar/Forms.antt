-- Each combinator keeps the form of its parts: what is spelled stays spelled at a greater depth, and
-- begins with a terminal that begins the part.
use Rattle.std.proofs.Common.{◌≡◌, ℕ, zero, suc, refl, sym, ap, ◌∙◌, subst, Bool, true, false, ◌&&◌, List, [], ◌∷◌, ◌++◌, inl, inr, Some, None}
use Rattle.tm_parse.proofs.grammar.Fronts.{terminals-append, front-append, front-two, front-left, front-right}
use Rattle.tm_parse.proofs.grammar.Lawful.{Front, Form}
use Rattle.tm_parse.specs.Classes.{joined}
use Rattle.tm_parse.specs.Combinators.{one, ◌>>◌, ◌or◌, nothing, to, counts_as, Others, Repeats, repeat}
use Rattle.tm_parse.specs.Events.{Mark, Role, Event, terminals}
use Rattle.tm_parse.specs.Parts.{Part}
use Rattle.tm_parse.specs.Shapes.{any, the, optional, with_comma, listed, listed1, lifetime_or_items, lifetimes_then, between}
use Rattle.tm_parse.specs.declared.class.Class.{Class}
use Rattle.tm_parse.specs.declared.class.Class.TheVariants as c

pub one_form : (role : Role) (classes : List Class) → Form (λ n. one role classes)
one_form role classes = record { grow = λ n v e h. h; front = λ n v e h. subst (λ e. Front classes false (terminals e)) (sym h.1) h.0 }

pub nothing_form : {V : Type 0} (x : V) → Form (λ n. nothing x)
nothing_form x = record { grow = λ n v e h. h; front = λ n v e h. subst (λ e. Front [] true (terminals e)) (sym h.1) tt }

pub to_form : {A B : Type 0} {P : ℕ → Part A} (f : A → B) → Form P → Form (λ n. to f (P n))
to_form f p = record { grow = λ n v e h. (h.0, p.grow n h.0 e h.1, h.2); front = λ n v e h. p.front n h.0 e h.1 }

pub seq_form : {A B : Type 0} {P : ℕ → Part A} {Q : ℕ → Part B} → Form P → Form Q → Form (λ n. P n >> Q n)
seq_form {P = P} {Q = Q} p q = record {
  grow = λ n v e h. (h.0, h.1, p.grow n v.0 h.0 h.2, q.grow n v.1 h.1 h.3, h.4);
  front = λ n v e h. subst (Front (joined (P zero).empty (Q zero).first (P zero).first) ((P zero).empty && (Q zero).empty)) (sym (ap terminals h.4 ∙ terminals-append h.0 h.1))
      (front-two (P zero).first (Q zero).first (P zero).empty (Q zero).empty (terminals h.0) (terminals h.1) (p.front n v.0 h.0 h.2) (q.front n v.1 h.1 h.3));
}

-- a part that isn't empty has a front
pub filled-front : {V : Type 0} (P : ℕ → Part V) → Form P → (P zero).empty ≡ false → (n : ℕ) (v : V) (e : List Event) → (P n).spells v e → Front (P zero).first false (terminals e)
filled-front P p s n v e h = subst (λ b. Front (P zero).first b (terminals e)) s (p.front n v e h)

pub or_form : {V : Type 0} {P Q : ℕ → Part V} → Form P → Form Q → (P zero).empty ≡ false → Form (λ n. P n or Q n)
or_form {V = V} {P = P} {Q = Q} p q s = record { grow = grown; front = fronts }
  where
    grown : (n : ℕ) (v : V) (e : List Event) → (P n or Q n).spells v e → (P (suc n) or Q (suc n)).spells v e
    grown n v e (inl h) = inl (p.grow n v e h)
    grown n v e (inr h) = inr (q.grow n v e h)

    fronts : (n : ℕ) (v : V) (e : List Event) → (P n or Q n).spells v e → Front ((P zero).first ++ (Q zero).first) (Q zero).empty (terminals e)
    fronts n v e (inl h) = front-left (P zero).first (Q zero).first (Q zero).empty (terminals e) (filled-front P p s n v e h)
    fronts n v e (inr h) = front-right (P zero).first (Q zero).first (Q zero).empty (terminals e) (q.front n v e h)

pub mark_form : {V : Type 0} {P : ℕ → Part V} (m : Mark) → Form P → Form (λ n. counts_as m (P n))
mark_form {P = P} m p = record {
  grow = λ n v e h. (h.0, p.grow n v h.0 h.1, h.2);
  front = λ n v e h. subst (λ e. Front (P zero).first (P zero).empty (terminals e)) (sym h.2) (p.front n v h.0 h.1);
}

pub repeat_form : {V : Type 0} {P : ℕ → Part (V × Bool)} → Form P → (P zero).empty ≡ false → Form (λ n. repeat (P n))
repeat_form {V = V} {P = P} p s = record { grow = grown; front = fronts }
  where
    up : (n : ℕ) (more : Bool) (vs : List V) (e : List Event) → Others more (Repeats (P n).spells vs e) vs e → (Repeats (P n).spells vs e → Repeats (P (suc n)).spells vs e) → Others more (Repeats (P (suc n)).spells vs e) vs e
    up n true vs e h again = again h
    up n false vs e h again = h

    grown : (n : ℕ) (vs : List V) (e : List Event) → Repeats (P n).spells vs e → Repeats (P (suc n)).spells vs e
    grown n [] e h = h
    grown n (v ∷ vs) e (more, f, g, x, t, eq) = (more, f, g, p.grow n (v, more) f x, up n more vs g t (grown n vs g), eq)

    fronts : (n : ℕ) (vs : List V) (e : List Event) → Repeats (P n).spells vs e → Front (P zero).first true (terminals e)
    fronts n [] e h = subst (λ e. Front (P zero).first true (terminals e)) (sym h) tt
    fronts n (v ∷ vs) e (more, f, g, x, t, eq) = subst (Front (P zero).first true) (sym (ap terminals eq ∙ terminals-append f g))
        (front-append (P zero).first (terminals f) (terminals g) (filled-front P p s n (v, more) f x))

-- the shapes

pub any_form : (classes : List Class) → Form (λ n. any classes)
any_form classes = record { grow = (one_form _ classes).grow; front = (one_form _ classes).front }

pub the_form : (class : Class) → Form (λ n. the class)
the_form class = record { grow = (any_form (class ∷ [])).grow; front = (any_form (class ∷ [])).front }

pub optional_form : {V : Type 0} {P : ℕ → Part V} → Form P → (P zero).empty ≡ false → Form (λ n. optional (P n))
optional_form p s = or_form (to_form Some p) (nothing_form None) s

comma_form : {V : Type 0} {P : ℕ → Part V} → Form P → Form (λ n. with_comma (P n))
comma_form p = to_form _ (seq_form p (optional_form (the_form c.Comma) refl))

-- what is put behind a part that isn't empty doesn't make it so
pub and_false : {b : Bool} → b ≡ false → (b && true) ≡ false
and_false s = subst (λ b. (b && true) ≡ false) (sym s) refl

pub listed_form : {V : Type 0} {P : ℕ → Part V} → Form P → (P zero).empty ≡ false → Form (λ n. listed (P n))
listed_form p s = repeat_form (comma_form p) (and_false s)

pub listed1_form : {V : Type 0} {P : ℕ → Part V} → Form P → (P zero).empty ≡ false → Form (λ n. listed1 (P n))
listed1_form p s = to_form _ (seq_form p (optional_form (seq_form (the_form c.Comma) (listed_form p s)) refl))

pub lifetimes_then_form : {A V : Type 0} {L : ℕ → Part A} {P : ℕ → Part V} → Form L → Form P → (L zero).empty ≡ false → (P zero).empty ≡ false → Form (λ n. lifetimes_then (L n) (P n))
lifetimes_then_form {L = L} {P = P} l p s t = or_form (to_form _ (seq_form l (optional_form (seq_form (the_form c.Comma) (repeat_form each (and_false t))) refl))) (to_form _ (listed1_form p t)) (and_false s)
  where
    each : Form (λ n. lifetime_or_items (L n) (P n))
    each = or_form (to_form _ (comma_form l)) (to_form _ (listed1_form p t)) (and_false s)

pub between_form : {V : Type 0} {P : ℕ → Part V} (opening : Class) (p : Form P) (closing : Class) → Form (λ n. between opening (P n) closing)
between_form opening p closing = to_form _ (seq_form (the_form opening) (seq_form p (the_form closing)))
