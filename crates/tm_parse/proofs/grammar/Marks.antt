-- The laws of a part before which something is counted.
use Rattle.std.proofs.Common.{◌≡◌, ℕ, zero, refl, sym, ap, ◌∙◌, subst, Bool, true, false, List, [], ◌∷◌, ◌++◌}
use Rattle.tm_parse.proofs.grammar.Forms.{filled-front, mark_form}
use Rattle.tm_parse.proofs.grammar.Fronts.{starts-same, starts-front, same-text}
use Rattle.tm_parse.proofs.grammar.Lawful.{Clear, Same, Spelling, Stops, IsRight, Laws}
use Rattle.tm_parse.specs.Combinators.{starts, read_marked, counts_as}
use Rattle.tm_parse.specs.Events.{Mark, mark, Event, terminals}
use Rattle.tm_parse.specs.Counting.{Step, Fine, Passes, step, counted, count}
use Rattle.tm_parse.specs.Parts.{Outcome, Done, Stuck, Passed, Part, finish}
use Rattle.tm_parse.specs.declared.counts.Counts.{Counts}
use Rattle.tm_parse.specs.declared.terminal.Terminal.{Terminal}

module _ {V : Type 0} (m : Mark) (P : ℕ → Part V) (p : Laws P) (filled : (P zero).empty ≡ false) where
  abbrev R : ℕ → Part V
  R n = counts_as m (P n)

  abbrev first_there : List Terminal → Bool
  first_there = starts (P zero).first

  known : {b : Bool} {s : Step} (c : Counts) (z : List Terminal) → first_there z ≡ b → step c (mark m) ≡ s → (R zero).read c z ≡ read_marked b s (P zero).read z
  known {b = b} c z h g = ap (λ b. read_marked b (step c (mark m)) (P zero).read z) h ∙ ap (λ s. read_marked b s (P zero).read z) g

  reads : (n : ℕ) (v : V) (e : List Event) (c : Counts) (z : List Terminal) → (R n).spells v e → Clear (R zero).bars z → (R zero).read c (terminals e ++ z) ≡ finish v z (count c e)
  reads n v e c z (f, h, eq) l = subst (λ e. (R zero).read c (terminals e ++ z) ≡ finish v z (count c e)) (sym eq)
      (known c (terminals f ++ z) (starts-front (P zero).first (terminals f) z (filled-front P p.form filled n v f h)) refl ∙ go (step c (mark m)))
    where
      go : (s : Step) → read_marked true s (P zero).read (terminals f ++ z) ≡ finish v z (counted s (mark m ∷ f) (λ d. count d f))
      go (Fine d) = p.reads n v f d z h l
      go (Passes kind) = refl

  marked : Spelling P → Spelling R
  marked x = record { depth = x.depth; value = x.value; events = mark m ∷ x.events; spelled = (x.events, x.spelled, refl) }

  module _ (c d : Counts) (ts : List Terminal) (h : first_there ts ≡ true) (g : step c (mark m) ≡ Fine d) where
    counted-in : (e : List Event) → count c (mark m ∷ e) ≡ count d e
    counted-in e = ap (λ s. counted s (mark m ∷ e) (λ d. count d e)) g

    again : (q rest o : List Terminal) → ts ≡ q ++ rest → Same rest o → (R zero).read c (q ++ o) ≡ (P zero).read d (q ++ o)
    again q rest o t s = known c (q ++ o) (sym (starts-same (P zero).first ts (q ++ o) (same-text ts q rest o t s)) ∙ h) g

    inside-stops : (rest : List Terminal) (back : List Event) (after : Counts) (answer : List Terminal → Outcome V) → Stops P d ts rest back after answer → Stops R c ts rest back after answer
    inside-stops rest back after answer i = record {
      depth = i.depth;
      value = i.value;
      front = mark m ∷ i.front;
      spelled = (i.front ++ back, i.spelled, refl);
      text = i.text;
      within = counted-in i.front ∙ i.within;
      alone = λ o s. again (terminals i.front) rest o i.text s ∙ i.alone o s;
    }

    inside : (o : Outcome V) → IsRight P d ts o → IsRight R c ts o
    inside (Done v x rest) i = record {
      depth = i.depth;
      events = mark m ∷ i.events;
      spelled = (i.events, i.spelled, refl);
      text = i.text;
      within = counted-in i.events ∙ i.within;
      alone = λ o s. again (terminals i.events) rest o i.text s ∙ i.alone o s;
    }
    inside (Stuck rest) (back, after, i) = (back, after, inside-stops rest back after Stuck i)
    inside (Passed kind rest) (back, after, i, past) = (back, after, inside-stops rest back after (Passed kind) i, past)

  right : (c : Counts) (ts : List Terminal) (b : Bool) (s : Step) → first_there ts ≡ b → step c (mark m) ≡ s → IsRight R c ts (read_marked b s (P zero).read ts)
  right c ts false s h g = let x = p.some in (
    mark m ∷ x.events,
    c,
    record {
      depth = x.depth;
      value = x.value;
      front = [];
      spelled = (x.events, x.spelled, refl);
      text = refl;
      within = refl;
      alone = λ o e. known c o (sym (starts-same (P zero).first ts o e) ∙ h) refl;
    },
  )
  right c ts true (Fine d) h g = inside c d ts h g ((P zero).read d ts) (p.right d ts)
  right c [] true (Passes kind) h g = absurd cc
  right c (t ∷ ts) true (Passes kind) h g = let x = p.begins t h in (
    mark m ∷ x.spelling.events,
    c,
    record {
      depth = x.spelling.depth;
      value = x.spelling.value;
      front = [];
      spelled = (x.spelling.events, x.spelling.spelled, refl);
      text = refl;
      within = refl;
      alone = λ o e. known c o (sym (starts-same (P zero).first (t ∷ ts) o e) ∙ h) g;
    },
    record { passes = ap (λ s. counted s (mark m ∷ x.spelling.events) (λ d. count d x.spelling.events)) g; next = subst (Same (t ∷ ts)) (sym x.next) refl; some = λ e. e },
  )

  pub marked-laws : Laws (λ n. counts_as m (P n))
  marked-laws = record {
    form = mark_form m p.form;
    some = marked p.some;
    none = λ h. absurd (let a : true ≡ false = sym h ∙ filled in cc);
    begins = λ t h. let x = p.begins t h in record {
      spelling = record { depth = x.spelling.depth; value = x.spelling.value; events = mark m ∷ x.spelling.events; spelled = (x.spelling.events, x.spelling.spelled, refl) };
      others = x.others;
      next = x.next;
    };
    reads = reads;
    right = λ c ts. right c ts (first_there ts) (step c (mark m)) refl refl;
  }

pub mark_laws : {V : Type 0} {P : ℕ → Part V} (m : Mark) → Laws P → (P zero).empty ≡ false → Laws (λ n. counts_as m (P n))
mark_laws {P = P} m p s = marked-laws m P p s
