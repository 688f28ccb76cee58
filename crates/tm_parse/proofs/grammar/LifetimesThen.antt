-- Lifetimes and then items are read as a list of lifetimes, and then one of items where another may follow.
use Rattle.std.proofs.Common.{◌≡◌, ℕ, zero, suc, ◌<◌, refl, sym, ap, ◌∙◌, subst, Bool, true, false, ◌&&◌, Some, None, List, [], ◌∷◌, ◌++◌, ◌⊎◌, inl, inr, length, arith}
use Rattle.tm_parse.proofs.grammar.Choices.{to_laws}
use Rattle.tm_parse.proofs.grammar.ClassLists.{among-left, among-right, among-either}
use Rattle.tm_parse.proofs.grammar.DefinitionLaws.{parameter_laws, type_parameter_laws, parameters_told}
use Rattle.tm_parse.proofs.grammar.Forms.{and_false}
use Rattle.tm_parse.proofs.grammar.Lawful.{IsRight, Laws}
use Rattle.tm_parse.proofs.grammar.LifetimeLaws.{IsTold, each_laws}
use Rattle.tm_parse.proofs.reading.Loops.{Stops, mapped_stops}
use Rattle.tm_parse.proofs.grammar.Repetitions.{all-on, all-stop, left-shorter}
use Rattle.tm_parse.proofs.grammar.ShapeLaws.{the_laws, comma_laws}
use Rattle.tm_parse.proofs.reading.SoFar.{parts, as_found, turn, all_turns}
use Rattle.tm_parse.proofs.grammar.TypeLaws.{type_laws}
use Rattle.tm_parse.specs.Classes.{among}
use Rattle.tm_parse.specs.Combinators.{starts, pick, paired, followed, mapped, put_first, and_again, read_all, ◌>>◌, repeat, to}
use Rattle.tm_parse.specs.Definitions.{parameter, type_parameter}
use Rattle.tm_parse.specs.Parts.{Outcome, Done, Stuck, Passed, Part}
use Rattle.tm_parse.specs.Shapes.{the, optional, is_there, with_comma, listed1, lifetime_or_items, in_two, and_then_others, lifetimes_then, is_open, so_far, behind}
use Rattle.tm_parse.specs.Types.{type_at}
use Rattle.tm_parse.specs.declared.class.Class.{Class}
use Rattle.tm_parse.specs.declared.class.Class.TheVariants as c
use Rattle.tm_parse.specs.declared.counts.Counts.{Counts}
use Rattle.tm_parse.specs.declared.reader.Reader.{Reader as Place}
use Rattle.tm_parse.specs.declared.stop.Stop.{Stop}
use Rattle.tm_parse.specs.declared.stop.Stop.TheVariants as stop
use Rattle.tm_parse.specs.declared.terminal.Terminal.{Terminal}

-- where another may follow behind the lifetimes and an item begins, the items are read
abbrev pub then_items : {A V : Type 0} → Part V → Outcome (List A × Bool) → Outcome (List A × List V)
then_items p (Done v n ts) = pick (v.1 && starts (listed1 p).first ts) (λ n ts. mapped (λ items. (v.0, items)) ((listed1 p).read n ts)) (λ n ts. Done (v.0, []) n ts) n ts
then_items p (Stuck ts) = Stuck ts
then_items p (Passed kind ts) = Passed kind ts

module _ {A V : Type 0} (p : Part V) (x : Outcome (List A × List V)) (o : Outcome (List A × Bool)) (same : x ≡ then_items p o) where
  -- the lifetimes stop; nothing follows them; or the items do
  pub then_stops : (after : Place) (e : Stop) → Stops o after e → Stops x after e
  then_stops after stop.Memory s = tt
  then_stops after stop.Stuck s = same ∙ ap (then_items p) s
  then_stops after (stop.Passed kind) s = same ∙ ap (then_items p) s

  module _ (lifetimes : List A) (more : Bool) (n : Counts) (ts : List Terminal) (read : o ≡ Done (lifetimes, more) n ts) where
    by-test : (b : Bool) → (more && starts (listed1 p).first ts) ≡ b → x ≡ pick b (λ n ts. mapped (λ items. (lifetimes, items)) ((listed1 p).read n ts)) (λ n ts. Done (lifetimes, []) n ts) n ts
    by-test b h = same ∙ ap (then_items p) read ∙ ap (λ b. pick b (λ n ts. mapped (λ items. (lifetimes, items)) ((listed1 p).read n ts)) (λ n ts. Done (lifetimes, []) n ts) n ts) h

    pub then_closed : (none : List V) → none ≡ [] → more ≡ false → x ≡ Done (lifetimes, none) n ts
    then_closed none empty h = by-test false (ap (λ b. b && starts (listed1 p).first ts) h) ∙ ap (λ items. Done (lifetimes, items) n ts) (sym empty)

    pub then_none : (none : List V) → none ≡ [] → starts (listed1 p).first ts ≡ false → x ≡ Done (lifetimes, none) n ts
    then_none none empty h = by-test false (go more h) ∙ ap (λ items. Done (lifetimes, items) n ts) (sym empty)
      where
        go : (b : Bool) → starts (listed1 p).first ts ≡ false → (b && starts (listed1 p).first ts) ≡ false
        go true h = h
        go false h = refl

    pub then_some : more ≡ true → starts (listed1 p).first ts ≡ true → x ≡ mapped (λ items. (lifetimes, items)) ((listed1 p).read n ts)
    then_some h g = by-test true (ap (λ b. b && starts (listed1 p).first ts) h ∙ g)

    pub then_some_stops : more ≡ true → starts (listed1 p).first ts ≡ true → (after : Place) (e : Stop) → Stops ((listed1 p).read n ts) after e → Stops x after e
    then_some_stops h g after e s = subst (λ o. Stops o after e) (sym (then_some h g)) (mapped_stops (λ items. (lifetimes, items)) ((listed1 p).read n ts) after e s)

-- what begins one of two lists of classes

starts-left : (xs ys : List Class) (ts : List Terminal) → starts xs ts ≡ true → starts (xs ++ ys) ts ≡ true
starts-left xs ys [] h = absurd cc
starts-left xs ys (t ∷ ts) h = among-left xs ys t.class h

starts-right : (xs ys : List Class) (ts : List Terminal) → starts ys ts ≡ true → starts (xs ++ ys) ts ≡ true
starts-right xs ys [] h = absurd cc
starts-right xs ys (t ∷ ts) h = among-right xs ys t.class h

starts-neither : (xs ys : List Class) (ts : List Terminal) → starts xs ts ≡ false → starts ys ts ≡ false → starts (xs ++ ys) ts ≡ false
starts-neither xs ys [] h g = refl
starts-neither xs ys (t ∷ ts) h g = go (among (xs ++ ys) t.class) refl
  where
    none : (among xs t.class ≡ true) ⊎ (among ys t.class ≡ true) → ⊥
    none (inl e) = let x : true ≡ false = sym e ∙ h in cc
    none (inr e) = let x : true ≡ false = sym e ∙ g in cc

    go : (b : Bool) → among (xs ++ ys) t.class ≡ b → among (xs ++ ys) t.class ≡ false
    go true e = absurd (none (among-either xs ys t.class e))
    go false e = e

module _ {A V : Type 0} (L : ℕ → Part A) (P : ℕ → Part V) (l : Laws L) (p : Laws P) (told : IsTold (L zero) (P zero)) where
  abbrev each : ℕ → Part ((A ⊎ List V) × Bool)
  each n = lifetime_or_items (L n) (P n)

  abbrev all : Counts → List Terminal → Outcome (List (A ⊎ List V))
  all = read_all (each zero).first (each zero).read

  abbrev one : Part (A × Bool)
  one = with_comma (L zero)

  abbrev items : Part (List V)
  items = listed1 (P zero)

  abbrev lifetimes : Counts → List Terminal → Outcome (List (A × Bool))
  lifetimes = all_turns (L zero)

  one-laws : Laws (λ n. with_comma (L n))
  one-laws = comma_laws l told.lifetime_ends

  -- a turn of each of the two loops

  each-on : (c : Counts) (ts : List Terminal) → starts (each zero).first ts ≡ true → all c ts ≡ and_again all ((each zero).read c ts)
  each-on = all-on each (each_laws L P l p told) (and_false told.item)

  each-stop : (c : Counts) (ts : List Terminal) → starts (each zero).first ts ≡ false → all c ts ≡ Done [] c ts
  each-stop = all-stop each (each_laws L P l p told) (and_false told.item)

  one-on : (c : Counts) (ts : List Terminal) → starts one.first ts ≡ true → lifetimes c ts ≡ and_again lifetimes ((turn (L zero)).read c ts)
  one-on = all-on (λ n. turn (L n)) (to_laws (λ v. (v, v.1)) one-laws) (and_false told.lifetime)

  one-stop : (c : Counts) (ts : List Terminal) → starts one.first ts ≡ false → lifetimes c ts ≡ Done [] c ts
  one-stop = all-stop (λ n. turn (L n)) (to_laws (λ v. (v, v.1)) one-laws) (and_false told.lifetime)

  -- the turn reads a lifetime, or the items

  abbrev as_one : Outcome (A × Bool) → Outcome ((A ⊎ List V) × Bool)
  as_one = mapped (λ v. (inl v.0, v.1))

  abbrev as_items : Outcome (List V) → Outcome ((A ⊎ List V) × Bool)
  as_items = mapped (λ vs. (inr vs, false))

  turn-one : (c : Counts) (ts : List Terminal) → starts one.first ts ≡ true → all c ts ≡ and_again all (as_one (one.read c ts))
  turn-one c ts h = each-on c ts (starts-left one.first items.first ts h) ∙ ap (λ b. and_again all (pick b (λ n ts. as_one (one.read n ts)) (λ n ts. as_items (items.read n ts)) c ts)) h

  turn-items : (c : Counts) (ts : List Terminal) → starts one.first ts ≡ false → starts items.first ts ≡ true → all c ts ≡ and_again all (as_items (items.read c ts))
  turn-items c ts h g = each-on c ts (starts-right one.first items.first ts g) ∙ ap (λ b. and_again all (pick b (λ n ts. as_one (one.read n ts)) (λ n ts. as_items (items.read n ts)) c ts)) h

  -- one more lifetime stands before what the others come to

  abbrev push : A → Outcome (List A × List V) → Outcome (List A × List V)
  push a = mapped (λ v. (a ∷ v.0, v.1))

  push-all : (a : A) (o : Outcome (List (A ⊎ List V))) → mapped in_two (put_first (inl a) o) ≡ push a (mapped in_two o)
  push-all a (Done us n ts) = refl
  push-all a (Stuck ts) = refl
  push-all a (Passed kind ts) = refl

  open-behind : (a : A) (vs : List (A × Bool)) → is_open ((a, true) ∷ vs) ≡ is_open vs
  open-behind a [] = refl
  open-behind a (v ∷ vs) = refl

  push-then : (a : A) (o : Outcome (List (A × Bool))) → then_items (P zero) (mapped as_found (put_first (a, true) o)) ≡ push a (then_items (P zero) (mapped as_found o))
  push-then a (Done vs n ts) =
      ap (λ b. pick (b && starts items.first ts) (λ n ts. mapped (λ ws. (a ∷ parts vs, ws)) (items.read n ts)) (λ n ts. Done (a ∷ parts vs, []) n ts) n ts) (open-behind a vs) ∙ go (is_open vs && starts items.first ts)
    where
      pushed : (o : Outcome (List V)) → mapped (λ ws. (a ∷ parts vs, ws)) o ≡ push a (mapped (λ ws. (parts vs, ws)) o)
      pushed (Done ws n ts) = refl
      pushed (Stuck ts) = refl
      pushed (Passed kind ts) = refl

      go : (b : Bool) → pick b (λ n ts. mapped (λ ws. (a ∷ parts vs, ws)) (items.read n ts)) (λ n ts. Done (a ∷ parts vs, []) n ts) n ts
          ≡ push a (pick b (λ n ts. mapped (λ ws. (parts vs, ws)) (items.read n ts)) (λ n ts. Done (parts vs, []) n ts) n ts)
      go true = pushed (items.read n ts)
      go false = refl
  push-then a (Stuck ts) = refl
  push-then a (Passed kind ts) = refl

  -- both loops read the same lifetimes, and the same items behind them
  module _ (c : Counts) (ts : List Terminal) (below : (d : Counts) (z : List Terminal) → length z < length ts → mapped in_two (all d z) ≡ then_items (P zero) (mapped as_found (lifetimes d z))) where
    behind-one : (o : Outcome (A × Bool)) → IsRight (λ n. with_comma (L n)) c ts o
        → mapped in_two (and_again all (as_one o)) ≡ then_items (P zero) (mapped as_found (and_again lifetimes (mapped (λ v. (v, v.1)) o)))
    behind-one (Done (a, true) d z) g = push-all a (all d z) ∙ ap (push a) (below d z (left-shorter (λ n. with_comma (L n)) one-laws (and_false told.lifetime) c ts (a, true) d z g)) ∙ sym (push-then a (lifetimes d z))
    behind-one (Done (a, false) d z) g = refl
    behind-one (Stuck z) g = refl
    behind-one (Passed kind z) g = refl

    items-alone : (o : Outcome (List V)) → mapped in_two (and_again all (as_items o)) ≡ mapped (λ ws. ([], ws)) o
    items-alone (Done ws d z) = refl
    items-alone (Stuck z) = refl
    items-alone (Passed kind z) = refl

    then-none : (b : Bool) → starts one.first ts ≡ false → starts items.first ts ≡ b
        → mapped in_two (all c ts) ≡ pick b (λ n ts. mapped (λ ws. ([], ws)) (items.read n ts)) (λ n ts. Done ([], []) n ts) c ts
    then-none true h g = ap (mapped in_two) (turn-items c ts h g) ∙ items-alone (items.read c ts)
    then-none false h g = ap (mapped in_two) (each-stop c ts (starts-neither one.first items.first ts h g))

    both-same : (b : Bool) → starts one.first ts ≡ b → mapped in_two (all c ts) ≡ then_items (P zero) (mapped as_found (lifetimes c ts))
    both-same true h = ap (mapped in_two) (turn-one c ts h) ∙ behind-one (one.read c ts) (one-laws.right c ts) ∙ sym (ap (λ o. then_items (P zero) (mapped as_found o)) (one-on c ts h))
    both-same false h = then-none (starts items.first ts) h refl ∙ sym (ap (λ o. then_items (P zero) (mapped as_found o)) (one-stop c ts h))

  same-below : (k : ℕ) (c : Counts) (ts : List Terminal) → length ts < k → mapped in_two (all c ts) ≡ then_items (P zero) (mapped as_found (lifetimes c ts))
  same-below zero c ts m = absurd (omega (arith, m))
  same-below (suc k) c ts m = both-same c ts (λ d z h. same-below k d z (omega (arith, m, h))) (starts one.first ts) refl

  -- the first of the lifetimes, and the others where a comma comes

  abbrev comma : Part Terminal
  comma = the c.Comma

  abbrev others : Part (List (A ⊎ List V))
  others = repeat (each zero)

  first-one : (o : Outcome A) → mapped and_then_others (followed (optional (comma >> others)).read o) ≡ mapped in_two (and_again all (as_one (mapped (λ v. (v.0, is_there v.1)) (followed (optional comma).read o))))
  first-one (Done a m us) = go (starts comma.first us)
    where
      rest : (w : Terminal) (o : Outcome (List (A ⊎ List V))) → mapped and_then_others (paired a (mapped Some (paired w o))) ≡ mapped in_two (put_first (inl a) o)
      rest w (Done us n ts) = refl
      rest w (Stuck ts) = refl
      rest w (Passed kind ts) = refl

      behind_comma : (o : Outcome Terminal) → mapped and_then_others (paired a (mapped Some (followed others.read o))) ≡ mapped in_two (and_again all (as_one (mapped (λ v. (v.0, is_there v.1)) (paired a (mapped Some o)))))
      behind_comma (Done w n ts) = rest w (all n ts)
      behind_comma (Stuck ts) = refl
      behind_comma (Passed kind ts) = refl

      go : (b : Bool) → mapped and_then_others (paired a (pick b (λ n ts. mapped Some ((comma >> others).read n ts)) (λ n ts. Done None n ts) m us))
          ≡ mapped in_two (and_again all (as_one (mapped (λ v. (v.0, is_there v.1)) (paired a (pick b (λ n ts. mapped Some (comma.read n ts)) (λ n ts. Done None n ts) m us)))))
      go true = behind_comma (comma.read m us)
      go false = refl
  first-one (Stuck us) = refl
  first-one (Passed kind us) = refl

  none-before : (before : List A) → before ≡ [] → (o : Outcome (List A × Bool)) → mapped (behind before) o ≡ o
  none-before before none (Done v n ts) = ap (λ vs. Done (vs ++ v.0, v.1) n ts) none
  none-before before none (Stuck ts) = refl
  none-before before none (Passed kind ts) = refl

  pub then-read : (before : List A) → before ≡ [] → (c : Counts) (ts : List Terminal) → starts one.first ts ≡ true
      → (lifetimes_then (L zero) (P zero)).read c ts ≡ then_items (P zero) ((to (behind before) (so_far (L zero))).read c ts)
  then-read before none c ts h =
      ap (λ b. pick b (λ n ts. mapped and_then_others ((L zero >> optional (comma >> others)).read n ts)) (λ n ts. mapped (λ ws. ([], ws)) (items.read n ts)) c ts) h
      ∙ first-one ((L zero).read c ts) ∙ sym (ap (mapped in_two) (turn-one c ts h))
      ∙ same-below (suc (length ts)) c ts (omega arith) ∙ ap (then_items (P zero)) (sym (none-before before none (mapped as_found (lifetimes c ts))))

pub parameters_read : (before : List Terminal) → before ≡ [] → (n : Counts) (ts : List Terminal) → starts (c.Lifetime ∷ []) ts ≡ true
    → (lifetimes_then parameter type_parameter).read n ts ≡ then_items type_parameter ((to (behind before) (so_far parameter)).read n ts)
parameters_read = then-read (λ n. parameter) (λ n. type_parameter) parameter_laws type_parameter_laws parameters_told

arguments-told : (depth : ℕ) → IsTold (the c.Lifetime) (type_at depth 0)
arguments-told depth = record { lifetime = refl; item = refl; lifetime_ends = refl; item_ends = refl; next_lifetime = refl; next_item = refl; either = refl }

pub arguments_read : (depth : ℕ) (before : List Terminal) → before ≡ [] → (n : Counts) (ts : List Terminal) → starts (c.Lifetime ∷ []) ts ≡ true
    → (lifetimes_then (the c.Lifetime) (type_at depth 0)).read n ts ≡ then_items (type_at depth 0) ((to (behind before) (so_far (the c.Lifetime))).read n ts)
arguments_read depth = then-read (λ n. the c.Lifetime) (λ n. type_at depth n) (the_laws c.Lifetime) (type_laws depth) (arguments-told depth)
