-- The laws of another value, and of a choice by the next terminal.
use Rattle.std.proofs.Common.{◌≡◌, ℕ, zero, refl, sym, ap, ◌∙◌, subst, Bool, true, false, List, [], ◌∷◌, ◌++◌, ◌⊎◌, inl, inr}
use Rattle.tm_parse.proofs.reading.AgreeingReaders.{mapped-same, spelling, begun, emptied, carried}
use Rattle.tm_parse.proofs.grammar.ClassLists.{among-either, among-apart}
use Rattle.tm_parse.proofs.grammar.Forms.{filled-front, to_form, or_form}
use Rattle.tm_parse.proofs.grammar.Fronts.{clear-both, starts-same, starts-front, front-first}
use Rattle.tm_parse.proofs.grammar.Lawful.{Clear, Front, Begun, IsRight, Laws}
use Rattle.tm_parse.specs.Classes.{among, apart, joined}
use Rattle.tm_parse.specs.Combinators.{starts, pick, ◌or◌, mapped, to}
use Rattle.tm_parse.specs.Events.{Event, terminals}
use Rattle.tm_parse.specs.Counting.{Verdict, Within, Beyond, count}
use Rattle.tm_parse.specs.Parts.{Part, finish}
use Rattle.tm_parse.specs.declared.counts.Counts.{Counts}
use Rattle.tm_parse.specs.declared.terminal.Terminal.{Terminal}

mapped-finish : {A B : Type 0} (f : A → B) (v : A) (z : List Terminal) (x : Verdict) → mapped f (finish v z x) ≡ finish (f v) z x
mapped-finish f v z (Within c) = refl
mapped-finish f v z (Beyond kind left) = refl

module _ {A B : Type 0} (f : A → B) (P : ℕ → Part A) (p : Laws P) where
  abbrev M : ℕ → Part B
  M n = to f (P n)

  spells : (n : ℕ) (v : A) (e : List Event) → (P n).spells v e → (m : ℕ) × (M m).spells (f v) e
  spells n v e h = (n, (v, h, refl))

  map-laws : Laws (λ n. to f (P n))
  map-laws = record {
    form = to_form f p.form;
    some = spelling f P M spells p.some;
    none = λ h. emptied f P M spells (p.none h);
    begins = λ t h. begun f P M spells t (p.begins t h);
    reads = λ n v e c z h k. ap (mapped f) (p.reads n h.0 e c z h.1 k) ∙ mapped-finish f h.0 z (count c e) ∙ ap (λ y. finish y z (count c e)) (sym h.2);
    right = λ c ts. carried f P M spells c ts (λ o s. refl) ((P zero).read c ts) (p.right c ts);
  }

pub to_laws : {A B : Type 0} {P : ℕ → Part A} (f : A → B) → Laws P → Laws (λ n. to f (P n))
to_laws {P = P} f p = map-laws f P p

module _ {V : Type 0} (P Q : ℕ → Part V) (p : Laws P) (q : Laws Q) (filled : (P zero).empty ≡ false) (sep : apart (P zero).first (Q zero).first ≡ true) where
  abbrev R : ℕ → Part V
  R n = P n or Q n

  picked : {b d : Bool} (c : Counts) (o : List Terminal) → b ≡ d → pick b (P zero).read (Q zero).read c o ≡ pick d (P zero).read (Q zero).read c o
  picked c o h = ap (λ b. pick b (P zero).read (Q zero).read c o) h

  by-first : (n : ℕ) (v : V) (e : List Event) → (P n).spells v e → (m : ℕ) × (R m).spells v e
  by-first n v e h = (n, inl h)

  by-second : (n : ℕ) (v : V) (e : List Event) → (Q n).spells v e → (m : ℕ) × (R m).spells v e
  by-second n v e h = (n, inr h)

  not-first : (b : Bool) (e z : List Terminal) → Front (Q zero).first b e → Clear (joined b (P zero).first ((P zero).bars ++ (Q zero).bars)) z → starts (P zero).first (e ++ z) ≡ false
  not-first true [] [] h l = refl
  not-first true [] (t ∷ z) h l = (clear-both (P zero).first ((P zero).bars ++ (Q zero).bars) (t ∷ z) l).0
  not-first false [] z h l = absurd h
  not-first b (t ∷ e) z h l = among-apart (P zero).first (Q zero).first t.class sep (front-first (Q zero).first b t e h)

  clear-inner : (b : Bool) (z : List Terminal) → Clear (joined b (P zero).first ((P zero).bars ++ (Q zero).bars)) z → Clear (P zero).bars z × Clear (Q zero).bars z
  clear-inner true z l = clear-both (P zero).bars (Q zero).bars z (clear-both (P zero).first ((P zero).bars ++ (Q zero).bars) z l).1
  clear-inner false z l = clear-both (P zero).bars (Q zero).bars z l

  reads : (n : ℕ) (v : V) (e : List Event) (c : Counts) (z : List Terminal) → (R n).spells v e → Clear (R zero).bars z → (R zero).read c (terminals e ++ z) ≡ finish v z (count c e)
  reads n v e c z (inl h) l = picked c (terminals e ++ z) (starts-front (P zero).first (terminals e) z (filled-front P p.form filled n v e h)) ∙ p.reads n v e c z h (clear-inner (Q zero).empty z l).0
  reads n v e c z (inr h) l = picked c (terminals e ++ z) (not-first (Q zero).empty (terminals e) z (q.form.front n v e h) l) ∙ q.reads n v e c z h (clear-inner (Q zero).empty z l).1

  right : (c : Counts) (ts : List Terminal) (b : Bool) → starts (P zero).first ts ≡ b → IsRight R c ts (pick b (P zero).read (Q zero).read c ts)
  right c ts true h = subst (IsRight R c ts) (mapped-same ((P zero).read c ts))
      (carried (λ v. v) P R by-first c ts (λ o s. picked c o (sym (starts-same (P zero).first ts o s) ∙ h) ∙ sym (mapped-same ((P zero).read c o))) ((P zero).read c ts) (p.right c ts))
  right c ts false h = subst (IsRight R c ts) (mapped-same ((Q zero).read c ts))
      (carried (λ v. v) Q R by-second c ts (λ o s. picked c o (sym (starts-same (P zero).first ts o s) ∙ h) ∙ sym (mapped-same ((Q zero).read c o))) ((Q zero).read c ts) (q.right c ts))

  begins : (t : Terminal) → (among (P zero).first t.class ≡ true) ⊎ (among (Q zero).first t.class ≡ true) → Begun R t
  begins t (inl h) = begun (λ v. v) P R by-first t (p.begins t h)
  begins t (inr h) = begun (λ v. v) Q R by-second t (q.begins t h)

  pub choice-laws : Laws (λ n. P n or Q n)
  choice-laws = record {
    form = or_form p.form q.form filled;
    some = spelling (λ v. v) P R by-first p.some;
    none = λ h. emptied (λ v. v) Q R by-second (q.none h);
    begins = λ t h. begins t (among-either (P zero).first (Q zero).first t.class h);
    reads = reads;
    right = λ c ts. right c ts (starts (P zero).first ts) refl;
  }

pub or_laws : {V : Type 0} {P Q : ℕ → Part V} → Laws P → Laws Q → (P zero).empty ≡ false → apart (P zero).first (Q zero).first ≡ true → Laws (λ n. P n or Q n)
or_laws {P = P} {Q = Q} p q s t = choice-laws P Q p q s t
