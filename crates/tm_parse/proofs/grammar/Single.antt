-- The laws of one terminal, and of nothing.
use Rattle.std.proofs.Common.{◌≡◌, ℕ, refl, sym, ap, ◌∙◌, subst, Bool, true, false, ◌||◌, List, [], ◌∷◌, ◌++◌, eq-eqb}
use Rattle.tm_parse.proofs.grammar.Forms.{one_form, nothing_form}
use Rattle.tm_parse.proofs.grammar.Lawful.{Clear, Same, Spelling, IsRight, Laws}
use Rattle.tm_parse.specs.Classes.{code, among}
use Rattle.tm_parse.specs.Combinators.{read_step, read_if, read_one, one, nothing}
use Rattle.tm_parse.specs.Events.{Role, Event, terminal, terminals}
use Rattle.tm_parse.specs.Counting.{Step, Fine, Passes, step, Within, counted, count}
use Rattle.tm_parse.specs.Parts.{Done, Stuck, Passed, Part, finish}
use Rattle.tm_parse.specs.declared.class.Class.{Class}
use Rattle.tm_parse.specs.declared.counts.Counts.{Counts}
use Rattle.tm_parse.specs.declared.terminal.Terminal.{Terminal}

pub nothing_laws : {V : Type 0} (x : V) → Laws (λ n. nothing x)
nothing_laws x = record {
  form = nothing_form x;
  some = record { depth = 0; value = x; events = []; spelled = (refl, refl) };
  none = λ h. record { spelling = record { depth = 0; value = x; events = []; spelled = (refl, refl) }; nothing = refl };
  begins = λ t h. absurd cc;
  reads = λ n v e c rest h k. subst (λ e. Done x c (terminals e ++ rest) ≡ finish v rest (count c e)) (sym h.1) (ap (λ y. Done y c rest) (sym h.0));
  right = λ c ts. record { depth = 0; events = []; spelled = (refl, refl); text = refl; within = refl; alone = λ o s. refl };
}

module _ (role : Role) (k : Class) (ks : List Class) where
  abbrev P : ℕ → Part Terminal
  P n = one role (k ∷ ks)

  sample : Terminal
  sample = record { class = k; place = 0; size = 1 }

  sample-spelled : (P 0).spells sample (terminal role sample ∷ [])
  unfolding sample
  sample-spelled = (ap (λ b. b || among ks k) (eq-eqb (code k) (code k) refl), refl)

  spelling : Spelling P
  spelling = record { depth = 0; value = sample; events = terminal role sample ∷ []; spelled = sample-spelled }

  taken : (t : Terminal) (s : Step) (z : List Terminal) → read_step s t z ≡ finish t z (counted s (terminal role t ∷ []) (λ d. Within d))
  taken t (Fine d) z = refl
  taken t (Passes kind) z = refl

  reads : (n : ℕ) (v : Terminal) (e : List Event) (c : Counts) (z : List Terminal) → (P n).spells v e → Clear [] z → read_one role (k ∷ ks) c (terminals e ++ z) ≡ finish v z (count c e)
  reads n v e c z h l = subst (λ e. read_one role (k ∷ ks) c (terminals e ++ z) ≡ finish v z (count c e)) (sym h.1)
      (ap (λ b. read_if b (step c (terminal role v)) v z) h.0 ∙ taken v (step c (terminal role v)) z)

  -- how one terminal is read, where its class and its step are known
  known : (c : Counts) (t : Terminal) (b : Bool) (s : Step) → among (k ∷ ks) t.class ≡ b → step c (terminal role t) ≡ s → (z : List Terminal) → read_one role (k ∷ ks) c (t ∷ z) ≡ read_if b s t z
  known c t b s h g z = ap (λ b. read_if b (step c (terminal role t)) t z) h ∙ ap (λ s. read_if b s t z) g

  -- the same, where some terminals begin with it
  known-same : (c : Counts) (t : Terminal) (b : Bool) (s : Step) → among (k ∷ ks) t.class ≡ b → step c (terminal role t) ≡ s → (ts other : List Terminal) → Same (t ∷ ts) other
      → (z : List Terminal) × (other ≡ t ∷ z) × (read_one role (k ∷ ks) c other ≡ read_if b s t z)
  known-same c t b s h g ts [] e = absurd e
  known-same c t b s h g ts (u ∷ z) e = (z, ap (λ x. x ∷ z) (sym e), subst (λ x. read_one role (k ∷ ks) c (x ∷ z) ≡ read_if b s t z) e (known c t b s h g z))

  at : (c : Counts) (t : Terminal) (ts : List Terminal) (b : Bool) (s : Step) → among (k ∷ ks) t.class ≡ b → step c (terminal role t) ≡ s → IsRight P c (t ∷ ts) (read_if b s t ts)
  at c t ts false s h g = (
    terminal role sample ∷ [],
    c,
    record {
      depth = 0;
      value = sample;
      front = [];
      spelled = sample-spelled;
      text = refl;
      within = refl;
      alone = λ o e. let x = known-same c t false s h g ts o e in x.2 ∙ ap Stuck (sym x.1);
    },
  )
  at c t ts true (Fine d) h g = record {
    depth = 0;
    events = terminal role t ∷ [];
    spelled = (h, refl);
    text = refl;
    within = ap (λ s. counted s (terminal role t ∷ []) (λ d. Within d)) g;
    alone = λ o e. known c t true (Fine d) h g o;
  }
  at c t ts true (Passes kind) h g = (
    terminal role t ∷ [],
    c,
    record {
      depth = 0;
      value = t;
      front = [];
      spelled = (h, refl);
      text = refl;
      within = refl;
      alone = λ o e. let x = known-same c t true (Passes kind) h g ts o e in x.2 ∙ ap (Passed kind) (sym x.1);
    },
    record { passes = ap (λ s. counted s (terminal role t ∷ []) (λ d. Within d)) g; next = refl; some = λ e. e },
  )

  right : (c : Counts) (ts : List Terminal) → IsRight P c ts (read_one role (k ∷ ks) c ts)
  right c [] = (
    terminal role sample ∷ [],
    c,
    record {
      depth = 0;
      value = sample;
      front = [];
      spelled = sample-spelled;
      text = refl;
      within = refl;
      alone = λ o e. subst (λ o. read_one role (k ∷ ks) c o ≡ Stuck o) (sym e) refl;
    },
  )
  right c (t ∷ ts) = at c t ts (among (k ∷ ks) t.class) (step c (terminal role t)) refl refl

  pub one_laws : Laws (λ n. one role (k ∷ ks))
  one_laws = record {
    form = one_form role (k ∷ ks);
    some = spelling;
    none = λ h. absurd (let a : false ≡ true = h in cc);
    begins = λ t h. record { spelling = record { depth = 0; value = t; events = terminal role t ∷ []; spelled = (h, refl) }; others = []; next = refl };
    reads = reads;
    right = right;
  }
