-- What a reader answers rightly, another reader answers rightly that agrees with it, but for a map, as
-- far as the next terminal.
use Rattle.std.proofs.Common.{◌≡◌, ℕ, zero, refl, ap, ◌∙◌, List, ◌++◌}
use Rattle.tm_parse.proofs.grammar.Fronts.{same-text}
use Rattle.tm_parse.proofs.grammar.Lawful.{Same, Spelling, Begun, Empty, Stops, IsRight}
use Rattle.tm_parse.specs.Combinators.{mapped}
use Rattle.tm_parse.specs.Events.{Event, terminals}
use Rattle.tm_parse.specs.Parts.{Outcome, Done, Stuck, Passed, Part}
use Rattle.tm_parse.specs.declared.counts.Counts.{Counts}
use Rattle.tm_parse.specs.declared.terminal.Terminal.{Terminal}

pub mapped-same : {A : Type 0} (o : Outcome A) → mapped (λ v. v) o ≡ o
mapped-same (Done v c ts) = refl
mapped-same (Stuck ts) = refl
mapped-same (Passed kind ts) = refl

module _ {A B : Type 0} (f : A → B) (P : ℕ → Part A) (Q : ℕ → Part B)
    (spells : (n : ℕ) (v : A) (e : List Event) → (P n).spells v e → (m : ℕ) × (Q m).spells (f v) e) where
  pub spelling : Spelling P → Spelling Q
  spelling x = let y = spells x.depth x.value x.events x.spelled in record { depth = y.0; value = f x.value; events = x.events; spelled = y.1 }

  pub begun : (t : Terminal) → Begun P t → Begun Q t
  begun t x = let y = spells x.spelling.depth x.spelling.value x.spelling.events x.spelling.spelled in
      record { spelling = record { depth = y.0; value = f x.spelling.value; events = x.spelling.events; spelled = y.1 }; others = x.others; next = x.next }

  pub emptied : Empty P → Empty Q
  emptied x = let y = spells x.spelling.depth x.spelling.value x.spelling.events x.spelling.spelled in
      record { spelling = record { depth = y.0; value = f x.spelling.value; events = x.spelling.events; spelled = y.1 }; nothing = x.nothing }

  module _ (c : Counts) (ts : List Terminal) (agree : (o : List Terminal) → Same ts o → (Q zero).read c o ≡ mapped f ((P zero).read c o)) where
    stops : (rest : List Terminal) (back : List Event) (after : Counts) (answer : List Terminal → Outcome A) → Stops P c ts rest back after answer → Stops Q c ts rest back after (λ o. mapped f (answer o))
    stops rest back after answer g = let y = spells g.depth g.value (g.front ++ back) g.spelled in record {
      depth = y.0;
      value = f g.value;
      front = g.front;
      spelled = y.1;
      text = g.text;
      within = g.within;
      alone = λ o s. agree (terminals g.front ++ o) (same-text ts (terminals g.front) rest o g.text s) ∙ ap (mapped f) (g.alone o s);
    }

    pub carried : (o : Outcome A) → IsRight P c ts o → IsRight Q c ts (mapped f o)
    carried (Done v d rest) g = let y = spells g.depth v g.events g.spelled in record {
      depth = y.0;
      events = g.events;
      spelled = y.1;
      text = g.text;
      within = g.within;
      alone = λ o s. agree (terminals g.events ++ o) (same-text ts (terminals g.events) rest o g.text s) ∙ ap (mapped f) (g.alone o s);
    }
    carried (Stuck rest) (back, after, g) = (back, after, stops rest back after Stuck g)
    carried (Passed kind rest) (back, after, g, past) = (back, after, stops rest back after (Passed kind) g, past)
