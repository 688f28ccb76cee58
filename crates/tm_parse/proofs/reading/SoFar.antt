-- A list with commas as far as it is read, turn by turn, and the same list without what is said of its commas.
use Rattle.std.proofs.Common.{◌≡◌, ℕ, zero, suc, refl, sym, ap, ◌∙◌, subst, Bool, true, false, List, [], ◌∷◌, ◌++◌, length, map, append_assoc}
use Rattle.std.proofs.lemmas.List.{map-append}
use Rattle.tm_parse.proofs.reading.Loops.{Goes, Stops, mapped_stops}
use Rattle.tm_parse.specs.Combinators.{starts, pick, mapped, put_first, and_again, read_most, read_all, to}
use Rattle.tm_parse.specs.Parts.{Outcome, Done, Stuck, Passed, Part}
use Rattle.tm_parse.specs.Shapes.{with_comma, listed, is_open, so_far, behind}
use Rattle.tm_parse.specs.declared.counts.Counts.{Counts}
use Rattle.tm_parse.specs.declared.reader.Reader.{Reader as Place}
use Rattle.tm_parse.specs.declared.stop.Stop.{Stop}
use Rattle.tm_parse.specs.declared.terminal.Terminal.{Terminal}

module _ {V : Type 0} where
  -- the parts of such a list, and whether another may follow
  abbrev pub parts : List (V × Bool) → List V
  parts = map (λ v. v.0)

  abbrev pub as_found : List (V × Bool) → List V × Bool
  as_found vs = (parts vs, is_open vs)

  pub open_next : (vs : List (V × Bool)) (v : V) (comma : Bool) → is_open (vs ++ (v, comma) ∷ []) ≡ comma
  open_next [] v comma = refl
  open_next (w ∷ []) v comma = refl
  open_next (w ∷ u ∷ vs) v comma = open_next (u ∷ vs) v comma

module _ {V : Type 0} (p : Part V) where
  -- a part, and whether a comma stands behind it, which says whether another may follow
  abbrev pub turn : Part ((V × Bool) × Bool)
  turn = to (λ v. (v, v.1)) (with_comma p)

  abbrev pub all_turns : Counts → List Terminal → Outcome (List (V × Bool))
  all_turns = read_all turn.first turn.read

  -- each part so far has a comma behind it, and what the turns left come to goes behind them
  pub record SoFar (all : Outcome (List (V × Bool))) (before found : List V) (k : ℕ) (n : Counts) (ts : List Terminal) : Type 0 where
    pub items : List (V × Bool)
    pub kept : found ≡ before ++ parts items
    pub more : is_open items ≡ true
    pub goes : Goes turn.first turn.read all items k n ts

module _ {V : Type 0} where
  pub found_done : (all : Outcome (List (V × Bool))) (before found : List V) (more : Bool) (items : List (V × Bool)) (n : Counts) (ts : List Terminal)
      → found ≡ before ++ parts items → is_open items ≡ more → all ≡ Done items n ts → mapped (behind before) (mapped as_found all) ≡ Done (found, more) n ts
  found_done all before found more items n ts h g e = ap (λ o. mapped (behind before) (mapped as_found o)) e ∙ ap (λ b. Done (before ++ parts items, b) n ts) g ∙ ap (λ vs. Done (vs, more) n ts) (sym h)

  pub found_next : (before found more : List V) (items : List (V × Bool)) (v : V) (comma : Bool) → found ≡ before ++ parts items → more ≡ found ++ v ∷ [] → more ≡ before ++ parts (items ++ (v, comma) ∷ [])
  found_next before found more items v comma h g = g ∙ ap (λ vs. vs ++ v ∷ []) h ∙ append_assoc before (parts items) (v ∷ []) ∙ ap (λ vs. before ++ vs) (sym (map-append (λ v. v.0) items ((v, comma) ∷ [])))

  -- without what is said of the commas it is the list

  first-parts : (v : V × Bool) (o : Outcome (List (V × Bool))) → put_first v.0 (mapped parts o) ≡ mapped parts (put_first v o)
  first-parts v (Done vs n ts) = refl
  first-parts v (Stuck ts) = refl
  first-parts v (Passed kind ts) = refl

module _ {V : Type 0} (p : Part V) where
  abbrev most_parts : ℕ → Counts → List Terminal → Outcome (List V)
  most_parts k = read_most k (with_comma p).first (with_comma p).read

  abbrev most_turns : ℕ → Counts → List Terminal → Outcome (List (V × Bool))
  most_turns k = read_most k (turn p).first (turn p).read

  turns-same : (k : ℕ) (n : Counts) (ts : List Terminal) → most_parts k n ts ≡ mapped parts (most_turns k n ts)
  unfolding read_most
  turns-same zero n ts = refl
  turns-same (suc k) n ts = go (starts (with_comma p).first ts) (λ m us. turns-same k m us)
    where
      again : (o : Outcome (V × Bool)) → ((m : Counts) (us : List Terminal) → most_parts k m us ≡ mapped parts (most_turns k m us))
          → and_again (most_parts k) o ≡ mapped parts (and_again (most_turns k) (mapped (λ v. (v, v.1)) o))
      again (Done (v, true) m us) same = ap (put_first v) (same m us) ∙ first-parts (v, true) (most_turns k m us)
      again (Done (v, false) m us) same = refl
      again (Stuck us) same = refl
      again (Passed kind us) same = refl

      go : (b : Bool) → ((m : Counts) (us : List Terminal) → most_parts k m us ≡ mapped parts (most_turns k m us))
          → pick b (λ n ts. and_again (most_parts k) ((with_comma p).read n ts)) (λ n ts. Done [] n ts) n ts
          ≡ mapped parts (pick b (λ n ts. and_again (most_turns k) ((turn p).read n ts)) (λ n ts. Done [] n ts) n ts)
      go true same = again ((with_comma p).read n ts) same
      go false same = refl

  without : (before : List V) (o : Outcome (List (V × Bool))) → mapped (λ vs. before ++ vs) (mapped parts o) ≡ mapped (λ v. v.0) (mapped (behind before) (mapped as_found o))
  without before (Done vs n ts) = refl
  without before (Stuck ts) = refl
  without before (Passed kind ts) = refl

  pub listed_same : (before : List V) (n : Counts) (ts : List Terminal) → (to (λ vs. before ++ vs) (listed p)).read n ts ≡ mapped (λ v. v.0) ((to (behind before) (so_far p)).read n ts)
  listed_same before n ts = ap (mapped (λ vs. before ++ vs)) (turns-same (length ts) n ts) ∙ without before (all_turns p n ts)

  pub listed_stops : (before : List V) (n : Counts) (ts : List Terminal) (after : Place) (e : Stop) → Stops ((to (behind before) (so_far p)).read n ts) after e → Stops ((to (λ vs. before ++ vs) (listed p)).read n ts) after e
  listed_stops before n ts after e s = subst (λ o. Stops o after e) (sym (listed_same before n ts)) (mapped_stops (λ v. v.0) ((to (behind before) (so_far p)).read n ts) after e s)
