-- The laws of a repetition. What matters of a part behind which another may follow is that no part begins with
-- a terminal that would go on with it.
use Rattle.std.proofs.Common.{◌≡◌, ℕ, zero, suc, ◌+◌, ◌<◌, ◌≤◌, refl, sym, ap, ◌∙◌, subst, Bool, true, false, List, [], ◌∷◌, ◌++◌, length, append_assoc, append-nil, length-append, arith}
use Rattle.tm_parse.proofs.grammar.ClassLists.{among-apart}
use Rattle.tm_parse.proofs.grammar.Forms.{filled-front, repeat_form}
use Rattle.tm_parse.proofs.grammar.Fronts.{terminals-before, count-within, count-beyond, same-append, same-text, starts-same, starts-front, clear-both}
use Rattle.tm_parse.proofs.grammar.Lawful.{Clear, Front, Same, IsDone, Stops, IsRight, Laws}
use Rattle.tm_parse.proofs.grammar.Spellings.{deeper, deeper-too}
use Rattle.tm_parse.specs.Classes.{apart}
use Rattle.tm_parse.specs.Combinators.{starts, pick, Others, put_first, go_on, and_again, read_most, read_all, repeat}
use Rattle.tm_parse.specs.Events.{Event, terminals}
use Rattle.tm_parse.specs.Counting.{Verdict, Within, Beyond, count}
use Rattle.tm_parse.specs.Parts.{Outcome, Done, Stuck, Passed, Reader, Part, finish}
use Rattle.tm_parse.specs.declared.class.Class.{Class}
use Rattle.tm_parse.specs.declared.counts.Counts.{Counts}
use Rattle.tm_parse.specs.declared.terminal.Terminal.{Terminal}

module _ {V : Type 0} (P : ℕ → Part (V × Bool)) (p : Laws P) (filled : (P zero).empty ≡ false) where
  abbrev R : ℕ → Part (List V)
  R n = repeat (P n)

  abbrev first : List Class
  first = (P zero).first

  abbrev most : ℕ → Reader (List V)
  most g = read_most g first (P zero).read

  abbrev all : Reader (List V)
  all = read_all first (P zero).read

  front : (n : ℕ) (v : V × Bool) (e : List Event) → (P n).spells v e → Front first false (terminals e)
  front n v e h = filled-front P p.form filled n v e h

  -- what is left is shorter
  shorter : (e z ts : List Terminal) → Front first false e → ts ≡ e ++ z → length z < length ts
  shorter [] z ts f e = absurd f
  shorter (t ∷ q) z ts f e = subst (λ x. length z < length x) (sym e) (omega (arith, length-append q z))

  pub left-shorter : (c : Counts) (ts : List Terminal) (v : V × Bool) (d : Counts) (rest : List Terminal) → IsDone P c ts v d rest → length rest < length ts
  left-shorter c ts v d rest g = shorter (terminals g.events) rest ts (front g.depth v g.events g.spelled) g.text

  go-same : (g h : Reader (List V)) (b : Bool) (d : Counts) (z : List Terminal) → g d z ≡ h d z → go_on b g d z ≡ go_on b h d z
  go-same g h true d z e = e
  go-same g h false d z e = refl

  again-same : (g h : Reader (List V)) (c : Counts) (ts : List Terminal) (o : Outcome (V × Bool)) → IsRight P c ts o
      → ((d : Counts) (z : List Terminal) → length z < length ts → g d z ≡ h d z) → and_again g o ≡ and_again h o
  again-same g h c ts (Done v d rest) i same = ap (put_first v.0) (go-same g h v.1 d rest (same d rest (left-shorter c ts v d rest i)))
  again-same g h c ts (Stuck rest) i same = refl
  again-same g h c ts (Passed kind rest) i same = refl

  pick-same : (g h : Reader (List V)) (c : Counts) (ts : List Terminal) (b : Bool) → and_again g ((P zero).read c ts) ≡ and_again h ((P zero).read c ts)
      → pick b (λ c ts. and_again g ((P zero).read c ts)) (λ c ts. Done [] c ts) c ts ≡ pick b (λ c ts. and_again h ((P zero).read c ts)) (λ c ts. Done [] c ts) c ts
  pick-same g h c ts true e = e
  pick-same g h c ts false e = refl

  -- two sufficient bounds on the number of parts give the same
  enough : (g h : ℕ) (c : Counts) (ts : List Terminal) → length ts ≤ g → length ts ≤ h → most g c ts ≡ most h c ts
  unfolding read_most
  enough zero zero c ts l k = refl
  enough zero (suc h) c [] l k = refl
  enough zero (suc h) c (t ∷ ts) l k = absurd (omega arith)
  enough (suc g) zero c [] l k = refl
  enough (suc g) zero c (t ∷ ts) l k = absurd (omega arith)
  enough (suc g) (suc h) c ts l k = pick-same (most g) (most h) c ts (starts first ts) (again-same (most g) (most h) c ts ((P zero).read c ts) (p.right c ts) λ d z m. enough g h d z (omega arith) (omega arith))

  opened : (c : Counts) (ts : List Terminal) → all c ts ≡ pick (starts first ts) (λ d z. and_again (most (length ts)) ((P zero).read d z)) (λ d z. Done [] d z) c ts
  unfolding read_most
  opened c ts = enough (length ts) (suc (length ts)) c ts (omega arith) (omega arith)

  -- one part, and then the rest of them; or none
  pub all-on : (c : Counts) (ts : List Terminal) → starts first ts ≡ true → all c ts ≡ and_again all ((P zero).read c ts)
  all-on c ts s = opened c ts ∙ ap (λ b. pick b (λ d z. and_again (most (length ts)) ((P zero).read d z)) (λ d z. Done [] d z) c ts) s
      ∙ again-same (most (length ts)) all c ts ((P zero).read c ts) (p.right c ts) λ d z m. enough (length ts) (length z) d z (omega arith) (omega arith)

  pub all-stop : (c : Counts) (ts : List Terminal) → starts first ts ≡ false → all c ts ≡ Done [] c ts
  all-stop c ts s = opened c ts ∙ ap (λ b. pick b (λ d z. and_again (most (length ts)) ((P zero).read d z)) (λ d z. Done [] d z) c ts) s

  -- spelled, and so read

  stopped : (z : List Terminal) → Clear first z → starts first z ≡ false
  stopped [] h = refl
  stopped (t ∷ z) h = h

  second : (v : V) (more : Bool) (vs : List V) (c : Counts) (e f : List Event) (z : List Terminal) (x : Verdict) → count c e ≡ x
      → ((d : Counts) → go_on more all d (terminals f ++ z) ≡ finish vs z (count d f))
      → and_again all (finish (v, more) (terminals f ++ z) x) ≡ finish (v ∷ vs) z (count c (e ++ f))
  second v more vs c e f z (Within d) h r = ap (put_first v) (r d) ∙ go (count d f) ∙ ap (finish (v ∷ vs) z) (sym (count-within c d e f h))
    where
      go : (y : Verdict) → put_first v (finish vs z y) ≡ finish (v ∷ vs) z y
      go (Within d) = refl
      go (Beyond kind left) = refl
  second v more vs c e f z (Beyond kind left) h r = ap (Passed kind) (sym (terminals-before left f z)) ∙ ap (finish (v ∷ vs) z) (sym (count-beyond c kind e f left h))

  -- spellings

  last : (n : ℕ) (b : Bool) → Others {V = V} b ((R n).spells [] []) [] []
  last n true = refl
  last n false = (refl, refl)

  single : (n : ℕ) (v : V × Bool) (e : List Event) → (P n).spells v e → (R n).spells (v.0 ∷ []) e
  single n v e s = (v.1, e, [], s, last n v.1, sym (append-nil e))

  both : (n m : ℕ) (v : V) (vs : List V) (e f : List Event) → (P n).spells (v, true) e → (R m).spells vs f → (R (n + m)).spells (v ∷ vs) (e ++ f)
  both n m v vs e f s t = (true, e, f, deeper P p.form (v, true) e n m s, deeper-too R (repeat_form p.form filled) vs f n m t, refl)

  -- the answers are right

  module _ (c d : Counts) (v : V × Bool) (ts rest : List Terminal) (g : IsDone P c ts v d rest) where
    -- one part is read to its end, whatever comes behind the same terminal
    again : (f : List Event) (r o : List Terminal) → rest ≡ terminals f ++ r → Same r o → all c (terminals (g.events ++ f) ++ o) ≡ put_first v.0 (go_on v.1 all d (terminals f ++ o))
    again f r o h same = ap (all c) (terminals-before g.events f o)
        ∙ all-on c (terminals g.events ++ (terminals f ++ o)) (starts-front first (terminals g.events) (terminals f ++ o) (front g.depth v g.events g.spelled))
        ∙ ap (and_again all) (g.alone (terminals f ++ o) (subst (λ x. Same x (terminals f ++ o)) (sym h) (same-append (terminals f) r o same)))

  module _ (c d : Counts) (v : V) (ts rest : List Terminal) (g : IsDone P c ts (v, true) d rest) where
    more-stops : (rest2 : List Terminal) (back : List Event) (after : Counts) (answer : List Terminal → Outcome (List V)) → Stops R d rest rest2 back after answer
        → Stops R c ts rest2 back after (λ o. put_first v (answer o))
    more-stops rest2 back after answer h = record {
      depth = g.depth + h.depth;
      value = v ∷ h.value;
      front = g.events ++ h.front;
      spelled = subst ((R (g.depth + h.depth)).spells (v ∷ h.value)) (sym (append_assoc g.events h.front back)) (both g.depth h.depth v h.value g.events (h.front ++ back) g.spelled h.spelled);
      text = g.text ∙ ap (λ x. terminals g.events ++ x) h.text ∙ sym (terminals-before g.events h.front rest2);
      within = count-within c d g.events h.front g.within ∙ h.within;
      alone = λ o s. again c d (v, true) ts rest g h.front rest2 o h.text s ∙ ap (put_first v) (h.alone o s);
    }

    more-right : (o : Outcome (List V)) → IsRight R d rest o → IsRight R c ts (put_first v o)
    more-right (Done vs d2 rest2) h = record {
      depth = g.depth + h.depth;
      events = g.events ++ h.events;
      spelled = both g.depth h.depth v vs g.events h.events g.spelled h.spelled;
      text = g.text ∙ ap (λ x. terminals g.events ++ x) h.text ∙ sym (terminals-before g.events h.events rest2);
      within = count-within c d g.events h.events g.within ∙ h.within;
      alone = λ o s. again c d (v, true) ts rest g h.events rest2 o h.text s ∙ ap (put_first v) (h.alone o s);
    }
    more-right (Stuck rest2) (back, after, h) = (back, after, more-stops rest2 back after Stuck h)
    more-right (Passed kind rest2) (back, after, h, past) = (back, after, more-stops rest2 back after (Passed kind) h, past)

  next-right : (c d : Counts) (v : V) (more : Bool) (ts rest : List Terminal) (g : IsDone P c ts (v, more) d rest) → IsRight R d rest (all d rest) → IsRight R c ts (put_first v (go_on more all d rest))
  next-right c d v true ts rest g h = more-right c d v ts rest g (all d rest) h
  next-right c d v false ts rest g h = record {
    depth = g.depth;
    events = g.events;
    spelled = single g.depth (v, false) g.events g.spelled;
    text = g.text;
    within = g.within;
    alone = λ o s. all-on c (terminals g.events ++ o) (starts-front first (terminals g.events) o (front g.depth (v, false) g.events g.spelled)) ∙ ap (and_again all) (g.alone o s);
  }

  first-stops : (c : Counts) (ts rest : List Terminal) (back : List Event) (after : Counts) (answer : List Terminal → Outcome (V × Bool)) → starts first ts ≡ true → Stops P c ts rest back after answer
      → Stops R c ts rest back after (λ o. and_again all (answer o))
  first-stops c ts rest back after answer b g = record {
    depth = g.depth;
    value = g.value.0 ∷ [];
    front = g.front;
    spelled = single g.depth g.value (g.front ++ back) g.spelled;
    text = g.text;
    within = g.within;
    alone = λ o s. all-on c (terminals g.front ++ o) (sym (starts-same first ts (terminals g.front ++ o) (same-text ts (terminals g.front) rest o g.text s)) ∙ b) ∙ ap (and_again all) (g.alone o s);
  }

  first-right : (c : Counts) (ts : List Terminal) → starts first ts ≡ true → ((d : Counts) (z : List Terminal) → length z < length ts → IsRight R d z (all d z))
      → (o : Outcome (V × Bool)) → IsRight P c ts o → IsRight R c ts (and_again all o)
  first-right c ts b rec (Done v d rest) g = next-right c d v.0 v.1 ts rest g (rec d rest (left-shorter c ts v d rest g))
  first-right c ts b rec (Stuck rest) (back, after, g) = (back, after, first-stops c ts rest back after Stuck b g)
  first-right c ts b rec (Passed kind rest) (back, after, g, past) = (back, after, first-stops c ts rest back after (Passed kind) b g, past)

  right-below : (n : ℕ) (c : Counts) (ts : List Terminal) → length ts < n → IsRight R c ts (all c ts)
  right-below zero c ts l = absurd (omega arith)
  right-below (suc n) c ts l = by (starts first ts) refl (λ d z m. right-below n d z (omega arith))
    where
      by : (b : Bool) → starts first ts ≡ b → ((d : Counts) (z : List Terminal) → length z < length ts → IsRight R d z (all d z)) → IsRight R c ts (all c ts)
      by false s rec = subst (IsRight R c ts) (sym (all-stop c ts s))
          (record { depth = 0; events = []; spelled = refl; text = refl; within = refl; alone = λ o e. all-stop c o (sym (starts-same first ts o e) ∙ s) })
      by true s rec = subst (IsRight R c ts) (sym (all-on c ts s)) (first-right c ts s rec ((P zero).read c ts) (p.right c ts))

  -- `follow` has the classes that would go on with a part behind which another may follow
  module _ (follow : List Class) (sep : apart follow first ≡ true)
      (goes-on : (n : ℕ) (v : V) (e : List Event) (c : Counts) (z : List Terminal) → (P n).spells (v, true) e → Clear follow z → (P zero).read c (terminals e ++ z) ≡ finish (v, true) z (count c e)) where
    -- a part before others, and before nothing
    before : (n : ℕ) (v : V) (more : Bool) (vs : List V) (f g : List Event) (c : Counts) (z : List Terminal) → (P n).spells (v, more) f → Others more ((R n).spells vs g) vs g → Clear (P zero).bars z
        → (P zero).read c (terminals f ++ (terminals g ++ z)) ≡ finish (v, more) (terminals g ++ z) (count c f)
    before n v false vs f g c z s t l = subst (λ g. (P zero).read c (terminals f ++ (terminals g ++ z)) ≡ finish (v, false) (terminals g ++ z) (count c f)) (sym t.1) (p.reads n (v, false) f c z s l)
    before n v true vs f g c z s t l = go (terminals g) ((repeat_form p.form filled).front n vs g t)
      where
        go : (e : List Terminal) → Front first true e → (P zero).read c (terminals f ++ (e ++ z)) ≡ finish (v, true) (e ++ z) (count c f)
        go [] h = p.reads n (v, true) f c z s l
        go (t ∷ e) h = goes-on n v f c (t ∷ (e ++ z)) s (among-apart follow first t.class sep h)

    reads : (n : ℕ) (vs : List V) (e : List Event) (c : Counts) (z : List Terminal) → (R n).spells vs e → Clear (first ++ (P zero).bars) z → all c (terminals e ++ z) ≡ finish vs z (count c e)
    reads n [] e c z h l = subst (λ e. all c (terminals e ++ z) ≡ finish [] z (count c e)) (sym h) (all-stop c z (stopped z (clear-both first (P zero).bars z l).0))
    reads n (v ∷ vs) e c z (more, f, g, s, t, eq) l =
        subst (λ e. all c (terminals e ++ z) ≡ finish (v ∷ vs) z (count c e)) (sym eq)
        (ap (all c) (terminals-before f g z) ∙ all-on c (terminals f ++ (terminals g ++ z)) (starts-front first (terminals f) (terminals g ++ z) (front n (v, more) f s))
        ∙ ap (and_again all) (before n v more vs f g c z s t (clear-both first (P zero).bars z l).1)
        ∙ second v more vs c f g z (count c f) refl (next more t (λ d h. reads n vs g d z h l)))
      where
        next : (more : Bool) → Others more ((R n).spells vs g) vs g → ((d : Counts) → (R n).spells vs g → all d (terminals g ++ z) ≡ finish vs z (count d g)) → (d : Counts) → go_on more all d (terminals g ++ z) ≡ finish vs z (count d g)
        next true t again d = again d t
        next false t again d = subst (λ e. Done [] d (terminals e ++ z) ≡ finish vs z (count d e)) (sym t.1) (ap (λ y. Done y d z) (sym t.0))

    pub repetition-laws : Laws (λ n. repeat (P n))
    repetition-laws = record {
      form = repeat_form p.form filled;
      some = record { depth = 0; value = []; events = []; spelled = refl };
      none = λ h. record { spelling = record { depth = 0; value = []; events = []; spelled = refl }; nothing = refl };
      begins = λ t h. let x = p.begins t h in let y = x.spelling in record {
        spelling = record { depth = y.depth; value = y.value.0 ∷ []; events = y.events; spelled = single y.depth y.value y.events y.spelled };
        others = x.others;
        next = x.next;
      };
      reads = reads;
      right = λ c ts. right-below (suc (length ts)) c ts (omega arith);
    }

pub repeat_laws : {V : Type 0} {P : ℕ → Part (V × Bool)} → Laws P → (P zero).empty ≡ false → apart (P zero).bars (P zero).first ≡ true → Laws (λ n. repeat (P n))
repeat_laws {P = P} p s t = repetition-laws P p s (P zero).bars t (λ n v e c z h k. p.reads n (v, true) e c z h k)
