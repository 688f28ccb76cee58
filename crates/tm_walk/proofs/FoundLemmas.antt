-- From the layers to what is sought: the least word on which the quantifier stops, and its offset.
use Rattle.std.proofs.Common.{◌≡◌, ℕ, suc, ◌+◌, ◌-◌, ◌≤◌, inl, inr, Bool, true, false, List, [], ◌∷◌, ◌++◌, length, take, map, Option, Some, None, slice_get, refl, sym, ap, ◌∙◌, subst, arith}
use Rattle.std.specs.Prelude.{◌==◌}
use Rattle.std.specs.Option.{option_map}
use Rattle.std.proofs.lemmas.Bool.{cases_lt}
use Rattle.std.proofs.lemmas.Option.{slice_get-map}
use Rattle.tm_base.specs.Cells.{Word}
use Rattle.tm_base.specs.Orders.{word_less}
use Rattle.tm_base.specs.Transmutes.{is_itself}
use Rattle.tm_base.proofs.OrderLemmas.{word_less-asym}
use Rattle.tm_auto.specs.Automata.{Automaton, IsAutomaton, ReadsWords, reached}
use Rattle.tm_walk.specs.declared.way.Way.{Way}
use Rattle.tm_walk.specs.Layers.{is_live, Entry}
use Rattle.tm_walk.specs.Numbers.{way_of}
use Rattle.tm_walk.specs.Sought.{IsSourceWord, IsSought, IsLeastSought, IsViableLength, IsFound}
use Rattle.tm_walk.specs.Ways.{cells_by, cells_to, LeadsBack}
use Rattle.tm_walk.specs.Words.{IsFront, IsLeastWord, live_length}
use Rattle.tm_walk.proofs.ChainLemmas.{word_at, IsStopped, IsChained, IsLeastFront, alike_earlier}
use Rattle.tm_walk.proofs.ChainLemmas as chain
use Rattle.tm_walk.proofs.LessLemmas.{less_begins, less_split, at_most, word_less-irreflexive}
use Rattle.tm_walk.proofs.LiveLemmas.{live_least, live_there, live_most}
use Rattle.tm_walk.proofs.NumberLemmas.{get_among, get_map}
use Rattle.tm_walk.proofs.PaddedLemmas.{padded, fit-padded, length-padded, take-padded, padded_within}
use Rattle.tm_walk.proofs.ViableLemmas.{tells_live, stops_are, skips_are}

-- ---- what is kept of the layers

-- the ways of all layers but the first, newest first
abbrev pub histories : List (List Entry) → List Entry → List (List Way)
histories [] layer = []
histories (l ∷ older) layer = map way_of layer ∷ histories older l

pub cells_are : (older : List (List Entry)) (layer : List Entry) (k : ℕ) → cells_to (histories older layer) k ≡ word_at older layer k
cells_are [] layer k = refl
cells_are (l ∷ older) layer k = ap (λ (o : Option Way). cells_by o (cells_to (histories older l))) (slice_get-map way_of layer k) ∙ by (slice_get layer k) (cells_are older l)
  where
    by : (o : Option Entry) → ((k : ℕ) → cells_to (histories older l) k ≡ word_at older l k) → cells_by (option_map way_of o) (cells_to (histories older l)) ≡ chain.cells_by o (word_at older l)
    by None f = refl
    by (Some e) f = ap (λ (z : Word). z ++ e.cell ∷ []) (f e.parent)

-- ---- words of one size

padded_over : (w : Word) (q : ℕ) → padded w (length w + q) ≡ w ++ padded [] q
padded_over [] q = let z : 0 + q ≡ q = omega arith in rw z refl
padded_over (c ∷ w) q = let z : suc (length w) + q ≡ suc (length w + q) = omega arith in rw z (ap (λ (u : Word). c ∷ u) (padded_over w q))

pub padded_less : (v w : Word) (p : ℕ) → length v ≡ length w → word_less (padded v p) (padded w p) ≡ true → word_less v w ≡ true
padded_less v w p l h = elim (cases_lt (length v) p) [
  | inl lt ↦ (
      let q = p - length v in
      let ev : p ≡ length v + q = omega arith in
      let ew : p ≡ length w + q = omega arith in
      let a : padded v p ≡ v ++ padded [] q = ap (padded v) ev ∙ padded_over v q in
      let b : padded w p ≡ w ++ padded [] q = ap (padded w) ew ∙ padded_over w q in
      elim (less_split v w (padded [] q) (padded [] q) l (subst (λ (z : Word). word_less (v ++ padded [] q) z ≡ true) b (subst (λ (z : Word). word_less z (padded w p) ≡ true) a h))) [
        | inl less ↦ less
        | inr (e, less) ↦ (let z = word_less-irreflexive (padded [] q) in cc)
      ])
  | inr ge ↦ (
      let (s, ev) = padded_within v p ge in
      let (t, ew) = padded_within w p (omega arith) in
      rw (ev, ew) (less_begins (padded v p) (padded w p) s t (length-padded v p ∙ sym (length-padded w p)) h))
]

module _ (A : ℕ → ℕ → Bool) (src dst : Automaton) (hs : IsAutomaton src) (rs : ReadsWords src) (hd : IsAutomaton dst) (rd : ReadsWords dst) (stop : Bool → Bool → Bool) (skip : Bool → Bool) where
  abbrev Stopped : Word → ℕ → Type 0
  Stopped w p = IsStopped A src dst stop skip w p

  abbrev Sought : Word → ℕ → Type 0
  Sought w p = IsSought A src dst stop skip w p

  not_true : (b : Bool) → (b ≡ true → ⊥) → b ≡ false
  not_true true f = absurd (f refl)
  not_true false f = refl

  pub sought_stopped : (w : Word) (p : ℕ) → Sought w p → Stopped w p
  sought_stopped w p s =
      let within = s.within in
      record {
        word = s.word;
        within = within;
        stops = (stops_are A src dst hs hd rd stop skip w s.word p within).0 s.stops;
        passes = λ q l. (
          not_true _ (λ h. (s.goes_on q l).0 ((stops_are A src dst hs hd rd stop skip w s.word q (omega arith)).1 h)),
          not_true _ (λ h. (s.goes_on q l).1 ((skips_are A src dst hs hd rd stop skip w s.word q (omega arith)).1 h)),
        );
      }

  pub stopped_sought : (w : Word) (p : ℕ) → Stopped w p → Sought w p
  stopped_sought w p s =
      let within = s.within in
      record {
        word = s.word;
        within = within;
        stops = (stops_are A src dst hs hd rd stop skip w s.word p within).1 s.stops;
        goes_on = λ q l. (
          λ h. (let a = (stops_are A src dst hs hd rd stop skip w s.word q (omega arith)).0 h in let b = (s.passes q l).0 in cc),
          λ h. (let a = (skips_are A src dst hs hd rd stop skip w s.word q (omega arith)).0 h in let b = (s.passes q l).1 in cc),
        );
      }

  -- a word that is padded alike is sought alike
  stopped_alike : (v w : Word) (p : ℕ) → IsSourceWord src w → padded v p ≡ padded w p → Stopped v p → Stopped w p
  stopped_alike v w p word e s = record {
    word = word;
    within = s.within;
    stops = subst (λ (u : Word). stop (is_live (reached A dst u)) (p == dst.size) ≡ true) e s.stops;
    passes = λ q l. subst (λ (u : Word). (stop (is_live (reached A dst u)) (q == dst.size) ≡ false) × (skip (is_live (reached A dst u)) ≡ false)) (alike_earlier v w p q (omega arith) e) (s.passes q l);
  }

  module _ (cells w : Word) (p : ℕ) (f : IsLeastFront A src dst hs rs stop skip cells p) (l : IsLeastWord src cells w) where
    long : length cells ≡ p
    long = ap length f.front ∙ length-padded f.whole p

    front : padded w p ≡ cells
    front = ap (padded w) (sym long) ∙ sym (fit-padded w (length cells)) ∙ l.begins

    least_sought : IsLeastSought A src dst stop skip w p
    least_sought = record {
      sought = stopped_sought w p (stopped_alike f.whole w p l.word (sym f.front ∙ sym front) f.stopped);
      earliest = λ v q s. f.earliest v q (sought_stopped v q s);
      least = λ v s. elim (at_most cells (padded v p) (f.least v (sought_stopped v p s))) [
        | inr e ↦ l.least v s.word (fit-padded v (length cells) ∙ ap (padded v) long ∙ sym e)
        | inl less ↦ (
            let sv = hs.sized is_itself v s.word in
            let sw = hs.sized is_itself w l.word in
            let w_less : word_less w v ≡ true = padded_less w v p (sw ∙ sym sv) (subst (λ (z : Word). word_less z (padded v p) ≡ true) (sym front) less) in
            word_less-asym w v w_less)
      ];
    }

    viable_length : IsViableLength A dst w p (live_length A dst dst.starts cells)
    viable_length =
        let k = live_length A dst dst.starts cells in
        let n : length cells ≡ p = long in
        let least : k ≤ p = (let z = live_least A dst dst.starts cells in omega arith) in
        let within = f.stopped.within in
        let cut : (q : ℕ) → q ≤ p → take q cells ≡ padded w q = λ q m. ap (take q) (sym front) ∙ take-padded w q p m in
        record {
          within = least;
          viable = λ n. (tells_live A src dst hs hd rd w l.word k (omega arith)).0 (subst (λ (z : Word). is_live (reached A dst z) ≡ true) (cut k least) (live_there A dst dst.starts cells n));
          longest = λ q m v. live_most A dst dst.starts cells q (omega arith) (subst (λ (z : Word). is_live (reached A dst z) ≡ true) (sym (cut q m)) ((tells_live A src dst hs hd rd w l.word q (omega arith)).1 v));
        }

    pub found_is : IsFound A src dst stop skip w (live_length A dst dst.starts cells)
    found_is = record { place = p; least = least_sought; viable = viable_length }

  -- ---- what finding needs

  pub leads_back : (older : List (List Entry)) (layer : List Entry) (k : ℕ) (e : Entry) → IsChained A src dst stop skip older layer → slice_get layer k ≡ Some e → LeadsBack (histories older layer) k
  leads_back [] layer k e c h = tt
  leads_back (l ∷ older) layer k e (next, none, c) h =
      let f = next.from e (get_among layer k e h) in
      (way_of e, get_map way_of layer k e h, leads_back older l e.parent f.pair c f.at)

  pub is_front : (cells : Word) (p : ℕ) → IsLeastFront A src dst hs rs stop skip cells p → IsFront src cells
  is_front cells p f =
      let long : length cells ≡ p = ap length f.front ∙ length-padded f.whole p in
      (f.whole, f.stopped.word, fit-padded f.whole (length cells) ∙ ap (padded f.whole) long ∙ sym f.front)
