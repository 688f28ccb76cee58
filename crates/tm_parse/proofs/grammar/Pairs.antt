-- The laws of one part and then another.
use Rattle.std.proofs.Common.{◌≡◌, ℕ, zero, ◌+◌, refl, sym, ap, ◌∙◌, subst, Bool, true, false, List, ◌++◌, append_assoc, ◌⊎◌, inl, inr}
use Rattle.std.proofs.lemmas.Bool.{and_parts}
use Rattle.tm_parse.proofs.grammar.ClassLists.{among-either}
use Rattle.tm_parse.proofs.grammar.Forms.{seq_form}
use Rattle.tm_parse.proofs.grammar.Fronts.{terminals-append, terminals-before, count-within, count-beyond, same-append, same-longer, clear-before, clear-last}
use Rattle.tm_parse.proofs.grammar.Lawful.{Clear, Same, Spelling, Begun, Empty, IsDone, Stops, IsRight, Laws}
use Rattle.tm_parse.proofs.grammar.Spellings.{deeper, deeper-too}
use Rattle.tm_parse.specs.Classes.{among, apart, joined}
use Rattle.tm_parse.specs.Combinators.{paired, followed, ◌>>◌}
use Rattle.tm_parse.specs.Events.{Event, terminals}
use Rattle.tm_parse.specs.Counting.{Verdict, Within, Beyond, count}
use Rattle.tm_parse.specs.Parts.{Outcome, Done, Stuck, Passed, Part, finish}
use Rattle.tm_parse.specs.declared.counts.Counts.{Counts}
use Rattle.tm_parse.specs.declared.terminal.Terminal.{Terminal}

module _ {A B : Type 0} (P : ℕ → Part A) (Q : ℕ → Part B) (p : Laws P) (q : Laws Q) (sep : apart (P zero).bars (Q zero).first ≡ true) where
  abbrev R : ℕ → Part (A × B)
  R n = P n >> Q n

  -- the second part is read after a first one that is spelled
  second : (v : A) (w : B) (c : Counts) (e f : List Event) (z : List Terminal) (x : Verdict) → count c e ≡ x
      → ((d : Counts) → (Q zero).read d (terminals f ++ z) ≡ finish w z (count d f))
      → followed (Q zero).read (finish v (terminals f ++ z) x) ≡ finish (v, w) z (count c (e ++ f))
  second v w c e f z (Within d) h r = ap (paired v) (r d) ∙ go (count d f) ∙ ap (finish (v, w) z) (sym (count-within c d e f h))
    where
      go : (y : Verdict) → paired v (finish w z y) ≡ finish (v, w) z y
      go (Within d) = refl
      go (Beyond kind left) = refl
  second v w c e f z (Beyond kind left) h r = ap (Passed kind) (sym (terminals-before left f z)) ∙ ap (finish (v, w) z) (sym (count-beyond c kind e f left h))

  reads : (n : ℕ) (v : A × B) (e : List Event) (c : Counts) (z : List Terminal) → (R n).spells v e → Clear (R zero).bars z → (R zero).read c (terminals e ++ z) ≡ finish v z (count c e)
  reads n v e c z (f, g, s, t, eq) l =
      let clear : Clear (P zero).bars (terminals g ++ z) = clear-before (P zero).bars (Q zero).bars (Q zero).first (Q zero).empty (terminals g) z sep (q.form.front n v.1 g t) l in
      subst (λ e. (R zero).read c (terminals e ++ z) ≡ finish v z (count c e)) (sym eq)
      (ap ((R zero).read c) (terminals-before f g z) ∙ ap (followed (Q zero).read) (p.reads n v.0 f c (terminals g ++ z) s clear)
      ∙ second v.0 v.1 c f g z (count c f) refl (λ d. q.reads n v.1 g d z t (clear-last (P zero).bars (Q zero).bars (Q zero).empty z l)))

  both : (n m : ℕ) (v : A) (w : B) (e f : List Event) → (P n).spells v e → (Q m).spells w f → (R (n + m)).spells (v, w) (e ++ f)
  both n m v w e f s t = (e, f, deeper P p.form v e n m s, deeper-too Q q.form w f n m t, refl)

  pair : Spelling P → Spelling Q → Spelling R
  pair x y = record { depth = x.depth + y.depth; value = (x.value, y.value); events = x.events ++ y.events; spelled = both x.depth y.depth x.value y.value x.events y.events x.spelled y.spelled }

  module _ (c d : Counts) (v : A) (ts rest : List Terminal) (g : IsDone P c ts v d rest) where
    -- the first part is read to its end, whatever comes behind the same terminal
    again : (f : List Event) (r o : List Terminal) → rest ≡ terminals f ++ r → Same r o
        → (R zero).read c (terminals (g.events ++ f) ++ o) ≡ paired v ((Q zero).read d (terminals f ++ o))
    again f r o h same = ap ((R zero).read c) (terminals-before g.events f o)
        ∙ ap (followed (Q zero).read) (g.alone (terminals f ++ o) (subst (λ x. Same x (terminals f ++ o)) (sym h) (same-append (terminals f) r o same)))

    second-stops : (rest2 : List Terminal) (back : List Event) (after : Counts) (answer : List Terminal → Outcome B) → Stops Q d rest rest2 back after answer
        → Stops R c ts rest2 back after (λ o. paired v (answer o))
    second-stops rest2 back after answer h = record {
      depth = g.depth + h.depth;
      value = (v, h.value);
      front = g.events ++ h.front;
      spelled = subst ((R (g.depth + h.depth)).spells (v, h.value)) (sym (append_assoc g.events h.front back)) (both g.depth h.depth v h.value g.events (h.front ++ back) g.spelled h.spelled);
      text = g.text ∙ ap (λ x. terminals g.events ++ x) h.text ∙ sym (terminals-before g.events h.front rest2);
      within = count-within c d g.events h.front g.within ∙ h.within;
      alone = λ o s. again h.front rest2 o h.text s ∙ ap (paired v) (h.alone o s);
    }

    after-second : (o : Outcome B) → IsRight Q d rest o → IsRight R c ts (paired v o)
    after-second (Done w d2 rest2) h = record {
      depth = g.depth + h.depth;
      events = g.events ++ h.events;
      spelled = both g.depth h.depth v w g.events h.events g.spelled h.spelled;
      text = g.text ∙ ap (λ x. terminals g.events ++ x) h.text ∙ sym (terminals-before g.events h.events rest2);
      within = count-within c d g.events h.events g.within ∙ h.within;
      alone = λ o s. again h.events rest2 o h.text s ∙ ap (paired v) (h.alone o s);
    }
    after-second (Stuck rest2) (back, after, h) = (back, after, second-stops rest2 back after Stuck h)
    after-second (Passed kind rest2) (back, after, h, past) = (back, after, second-stops rest2 back after (Passed kind) h, past)

  first-stops : (c : Counts) (ts rest : List Terminal) (back : List Event) (after : Counts) (answer : List Terminal → Outcome A) → Stops P c ts rest back after answer
      → Stops R c ts rest (back ++ q.some.events) after (λ o. followed (Q zero).read (answer o))
  first-stops c ts rest back after answer g = let x = q.some in record {
    depth = g.depth + x.depth;
    value = (g.value, x.value);
    front = g.front;
    spelled = subst ((R (g.depth + x.depth)).spells (g.value, x.value)) (append_assoc g.front back x.events) (both g.depth x.depth g.value x.value (g.front ++ back) x.events g.spelled x.spelled);
    text = g.text;
    within = g.within;
    alone = λ o s. ap (followed (Q zero).read) (g.alone o s);
  }

  after-first : (c : Counts) (ts : List Terminal) (o : Outcome A) → IsRight P c ts o → IsRight R c ts (followed (Q zero).read o)
  after-first c ts (Done v d rest) g = after-second c d v ts rest g ((Q zero).read d rest) (q.right d rest)
  after-first c ts (Stuck rest) (back, after, g) = (back ++ q.some.events, after, first-stops c ts rest back after Stuck g)
  after-first c ts (Passed kind rest) (back, after, g, past) = (
    back ++ q.some.events,
    after,
    first-stops c ts rest back after (Passed kind) g,
    record {
      passes = count-beyond after kind back q.some.events back past.passes;
      next = subst (Same rest) (sym (terminals-append back q.some.events)) (same-longer rest (terminals back) (terminals q.some.events) past.some past.next);
      some = past.some;
    },
  )

  from-first : (t : Terminal) → among (P zero).first t.class ≡ true → Begun R t
  from-first t h = let x = p.begins t h in let y = q.some in record {
    spelling = record {
      depth = x.spelling.depth + y.depth;
      value = (x.spelling.value, y.value);
      events = x.spelling.events ++ y.events;
      spelled = both x.spelling.depth y.depth x.spelling.value y.value x.spelling.events y.events x.spelling.spelled y.spelled;
    };
    others = x.others ++ terminals y.events;
    next = terminals-append x.spelling.events y.events ∙ ap (λ w. w ++ terminals y.events) x.next;
  }

  from-second : (t : Terminal) → (P zero).empty ≡ true → among (Q zero).first t.class ≡ true → Begun R t
  from-second t e h = let x = p.none e in let y = q.begins t h in record {
    spelling = record {
      depth = x.spelling.depth + y.spelling.depth;
      value = (x.spelling.value, y.spelling.value);
      events = x.spelling.events ++ y.spelling.events;
      spelled = both x.spelling.depth y.spelling.depth x.spelling.value y.spelling.value x.spelling.events y.spelling.events x.spelling.spelled y.spelling.spelled;
    };
    others = y.others;
    next = terminals-append x.spelling.events y.spelling.events ∙ ap (λ w. w ++ terminals y.spelling.events) x.nothing ∙ y.next;
  }

  begins : (t : Terminal) (b : Bool) → (P zero).empty ≡ b → among (joined b (Q zero).first (P zero).first) t.class ≡ true → Begun R t
  begins t false e h = from-first t h
  begins t true e h = go (among-either (Q zero).first (P zero).first t.class h)
    where
      go : (among (Q zero).first t.class ≡ true) ⊎ (among (P zero).first t.class ≡ true) → Begun R t
      go (inl h) = from-second t e h
      go (inr h) = from-first t h

  none : (R zero).empty ≡ true → Empty R
  none h = let s = and_parts (P zero).empty (Q zero).empty h in let x = p.none s.0 in let y = q.none s.1 in record {
    spelling = record {
      depth = x.spelling.depth + y.spelling.depth;
      value = (x.spelling.value, y.spelling.value);
      events = x.spelling.events ++ y.spelling.events;
      spelled = both x.spelling.depth y.spelling.depth x.spelling.value y.spelling.value x.spelling.events y.spelling.events x.spelling.spelled y.spelling.spelled;
    };
    nothing = terminals-append x.spelling.events y.spelling.events ∙ ap (λ w. w ++ terminals y.spelling.events) x.nothing ∙ y.nothing;
  }

  pub pair-laws : Laws (λ n. P n >> Q n)
  pair-laws = record {
    form = seq_form p.form q.form;
    some = pair p.some q.some;
    none = none;
    begins = λ t h. begins t (P zero).empty refl h;
    reads = reads;
    right = λ c ts. after-first c ts ((P zero).read c ts) (p.right c ts);
  }

pub seq_laws : {A B : Type 0} {P : ℕ → Part A} {Q : ℕ → Part B} → Laws P → Laws Q → apart (P zero).bars (Q zero).first ≡ true → Laws (λ n. P n >> Q n)
seq_laws {P = P} {Q = Q} p q s = pair-laws P Q p q s
