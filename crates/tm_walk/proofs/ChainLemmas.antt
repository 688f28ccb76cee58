-- Layers that follow one from another: the least words that lead to their pairs.
use Rattle.std.proofs.Common.{◌≡◌, ◌≢◌, ℕ, suc, ◌<◌, ◌≤◌, inl, inr, Bool, true, false, List, [], ◌∷◌, ◌++◌, length, take, Option, Some, None, slice_get, refl, sym, ap, ◌∙◌, subst, arith, length-append, Contains}
use Rattle.std.specs.Prelude.{◌==◌}
use Rattle.std.proofs.lemmas.Bool.{cases_lt}
use Rattle.std.proofs.lemmas.List.{take-append-le}
use Rattle.std.proofs.lemmas.Option.{slice_get_within}
use Rattle.tm_base.specs.declared.cell.Cell.{Cell}
use Rattle.tm_base.specs.declared.cell.Cell.TheVariants.{Uninit}
use Rattle.tm_base.specs.Cells.{Word}
use Rattle.tm_base.specs.Orders.{word_less}
use Rattle.tm_base.specs.Transmutes.{holds, is_itself}
use Rattle.tm_base.proofs.OrderLemmas.{word_less-asym}
use Rattle.tm_base.proofs.JudgedLemmas.{Contains-none}
use Rattle.tm_auto.specs.Automata.{Automaton, AutoWord, IsAutomaton, ReadsWords, AreStates, reached}
use Rattle.tm_auto.specs.Sets.{next, symbol_of, reached_from}
use Rattle.tm_auto.proofs.NextLemmas.{next_states}
use Rattle.tm_walk.specs.Layers.{is_live, Entry, IsStart, NoneStops, IsFirstStop, HasStates, source_step, target_step, Goes, IsNext}
use Rattle.tm_walk.specs.Sought.{IsSourceWord}
use Rattle.tm_walk.proofs.LessLemmas.{nothing_less, less_begins, less_behind, less_cell, less_most, last_not_less}
use Rattle.tm_walk.proofs.NumberLemmas.{get_among, among_get}
use Rattle.tm_walk.proofs.OfferLemmas.{rising_at}
use Rattle.tm_walk.proofs.PaddedLemmas.{padded, cell_at, cell_past, padded_more, padded_front, padded_within, length-padded, take-padded}

abbrev pub cells_by : Option Entry → (ℕ → Word) → Word
cells_by None f = []
cells_by (Some e) f = f e.parent ++ e.cell ∷ []

-- the cells along the ways back from a pair, the first one first; older layers stand newest first
abbrev pub word_at : List (List Entry) → List Entry → ℕ → Word
word_at [] layer k = []
word_at (l ∷ older) layer k = cells_by (slice_get layer k) (word_at older l)

pub reached_more : (A : ℕ → ℕ → Bool) (auto : Automaton) (w : Word) (c : Cell) → reached A auto (w ++ c ∷ []) ≡ next A auto.edges (reached A auto w) (symbol_of c)
reached_more A auto w c = go auto.starts w
  where
    go : (states : List ℕ) (w : Word) → reached_from A auto.edges states (w ++ c ∷ []) ≡ next A auto.edges (reached_from A auto.edges states w) (symbol_of c)
    go states [] = refl
    go states (d ∷ w) = go (next A auto.edges states (symbol_of d)) w

-- where two words are padded alike, they are to each earlier place
pub alike_earlier : (v w : Word) (p q : ℕ) → q ≤ p → padded v p ≡ padded w p → padded v q ≡ padded w q
alike_earlier v w p q l e = sym (take-padded v q p l) ∙ ap (take q) e ∙ take-padded w q p l

module _ (A : ℕ → ℕ → Bool) (src dst : Automaton) (stop : Bool → Bool → Bool) (skip : Bool → Bool) where
  abbrev pub source_of : Word → List ℕ
  source_of u = reached is_itself src u

  abbrev pub target_of : Word → List ℕ
  target_of u = reached A dst u

  -- the quantifier goes on at the place, told by what the cells reach
  abbrev pub GoesOn : Word → ℕ → Type 0
  GoesOn w q = (stop (is_live (target_of (padded w q))) (q == dst.size) ≡ false) × (skip (is_live (target_of (padded w q))) ≡ false)

  abbrev pub Passes : Word → ℕ → Type 0
  Passes w p = (q : ℕ) → q < p → GoesOn w q

  -- what is sought, so told
  pub record IsStopped (w : Word) (p : ℕ) : Type 0 where
    pub word : IsSourceWord src w
    pub within : p ≤ dst.size
    pub stops : stop (is_live (target_of (padded w p))) (p == dst.size) ≡ true
    pub passes : Passes w p

  -- each layer follows from the one before it, and nothing stopped before the last
  abbrev pub IsChained : List (List Entry) → List Entry → Type 0
  IsChained [] layer = IsStart src dst layer
  IsChained (l ∷ older) layer = IsNext A src dst skip (length older) l (length l) layer × NoneStops stop (length older == dst.size) l × IsChained older l

module _ (A : ℕ → ℕ → Bool) (src dst : Automaton) (hs : IsAutomaton src) (rs : ReadsWords src) (stop : Bool → Bool → Bool) (skip : Bool → Bool) where
  abbrev source_by : Word → List ℕ
  source_by u = reached is_itself src u

  abbrev target_by : Word → List ℕ
  target_by u = reached A dst u

  abbrev On : Word → ℕ → Type 0
  On w q = GoesOn A src dst stop skip w q

  abbrev Past : Word → ℕ → Type 0
  Past w p = Passes A src dst stop skip w p

  abbrev Stopped : Word → ℕ → Type 0
  Stopped w p = IsStopped A src dst stop skip w p

  abbrev Chain : List (List Entry) → List Entry → Type 0
  Chain older layer = IsChained A src dst stop skip older layer

  -- ---- what a pair means: some source word, padded, leads to it

  pub record Means (older : List (List Entry)) (layer : List Entry) (k : ℕ) (e : Entry) : Type 0 where
    pub whole : Word
    pub word : IsSourceWord src whole
    pub front : word_at older layer k ≡ padded whole (length older)
    pub source : e.src ≡ source_by (padded whole (length older))
    pub target : e.dst ≡ target_by (padded whole (length older))
    pub passes : Past whole (length older)

  -- one cell more
  extends : (w : Word) → IsSourceWord src w → (p : ℕ) (c : Cell) (from : List ℕ) → from ≡ source_by (padded w p) → Goes A src dst p from c → (v : Word) × IsSourceWord src v × (padded v (suc p) ≡ padded w p ++ c ∷ [])
  extends w word p c from is g = elim (cases_lt p src.size) [
    | inl l ↦ (
        let some : source_by (padded w p ++ c ∷ []) ≢ [] = λ e. g.0 l (ap (λ (z : List ℕ). source_step A src dst z (symbol_of c)) is ∙ sym (reached_more is_itself src (padded w p) c) ∙ e) in
        let (v, more) = (rs.source (padded w p ++ c ∷ [])).0 some in
        let long : length (padded w p ++ c ∷ []) ≡ suc p = length-append (padded w p) (c ∷ []) ∙ (let z = length-padded w p in omega arith) in
        ((padded w p ++ c ∷ []) ++ v, more, subst (λ (n : ℕ). padded ((padded w p ++ c ∷ []) ++ v) n ≡ padded w p ++ c ∷ []) long (padded_front (padded w p ++ c ∷ []) v)))
    | inr l ↦ (
        let u : c ≡ Uninit = g.1 l in
        let size = hs.sized is_itself w word in
        let past = cell_past w p (omega arith) in
        (w, word, padded_more w p ∙ ap (λ (z : Cell). padded w p ++ z ∷ []) (past ∙ sym u)))
  ]

  at_entry : (l : List Entry) (older : List (List Entry)) (layer : List Entry) (k : ℕ) (e : Entry) → slice_get layer k ≡ Some e → word_at (l ∷ older) layer k ≡ word_at older l e.parent ++ e.cell ∷ []
  at_entry l older layer k e h = ap (λ z. cells_by z (word_at older l)) h

  pub means : (older : List (List Entry)) (layer : List Entry) → Chain older layer → (k : ℕ) (e : Entry) → slice_get layer k ≡ Some e → Means older layer k e
  means [] layer c k e h =
      let (z, a, b, n) = c.each k e h in
      let (w, word) = (rs.source []).0 (λ q. n (sym (rs.begins is_itself) ∙ q)) in
      record { whole = w; word = word; front = refl; source = a; target = b; passes = λ q l. absurd (omega arith) }
  means (l ∷ older) layer (next, none, c) k e h =
      let f = next.from e (get_among layer k e h) in
      let m = means older l c e.parent f.pair f.at in
      let p = length older in
      let (w, word, more) = extends m.whole m.word p e.cell f.pair.src m.source f.step.goes in
      let same : padded w p ≡ padded m.whole p = sym (take-padded w p (suc p) (omega arith)) ∙ ap (take p) more ∙ take-append-le p (padded m.whole p) (e.cell ∷ []) (let z = length-padded m.whole p in omega arith) ∙ take-padded m.whole p p (omega arith) in
      record {
        whole = w;
        word = word;
        front = at_entry l older layer k e h ∙ ap (λ (z : Word). z ++ e.cell ∷ []) m.front ∙ sym more;
        source = f.step.source ∙ ap (λ (z : List ℕ). source_step A src dst z (symbol_of e.cell)) m.source ∙ sym (reached_more is_itself src (padded m.whole p) e.cell) ∙ ap source_by (sym more);
        target = f.step.target ∙ ap (λ (z : List ℕ). target_step A src dst z (symbol_of e.cell)) m.target ∙ sym (reached_more A dst (padded m.whole p) e.cell) ∙ ap target_by (sym more);
        passes = λ q less. elim (cases_lt q p) [
          | inl lt ↦ (
              let z : padded m.whole q ≡ padded w q = alike_earlier m.whole w p q (omega arith) (sym same) in
              subst (λ (u : Word). (stop (is_live (target_by u)) (q == dst.size) ≡ false) × (skip (is_live (target_by u)) ≡ false)) z (m.passes q lt))
          | inr ge ↦ (
              let at : q ≡ p = omega arith in
              let here : f.pair.dst ≡ target_by (padded w p) = m.target ∙ ap target_by (sym same) in
              subst (λ (n : ℕ). On w n) (sym at) (
                subst (λ (s : List ℕ). stop (is_live s) (p == dst.size) ≡ false) here (none e.parent f.pair f.at),
                subst (λ (s : List ℕ). skip (is_live s) ≡ false) here f.goes_on,
              ))
        ];
      }

  pub long : (older : List (List Entry)) (layer : List Entry) → Chain older layer → (k : ℕ) (e : Entry) → slice_get layer k ≡ Some e → length (word_at older layer k) ≡ length older
  long older layer c k e h = let m = means older layer c k e h in ap length m.front ∙ length-padded m.whole (length older)

  -- later pairs have greater words
  pub order : (older : List (List Entry)) (layer : List Entry) → Chain older layer → (j k : ℕ) (e f : Entry) → j < k → slice_get layer j ≡ Some e → slice_get layer k ≡ Some f → word_less (word_at older layer j) (word_at older layer k) ≡ true
  order [] layer c j k e f l a b = let x = (c.each j e a).0 in let y = (c.each k f b).0 in absurd (omega arith)
  order (l ∷ older) layer (next, none, c) j k e f less a b =
      let x = next.from e (get_among layer j e a) in
      let y = next.from f (get_among layer k f b) in
      rw (at_entry l older layer j e a, at_entry l older layer k f b)
      (elim (rising_at layer next.rising j k e f less a b) [
        | inl lt ↦ less_begins (word_at older l e.parent) (word_at older l f.parent) (e.cell ∷ []) (f.cell ∷ []) (long older l c e.parent x.pair x.at ∙ sym (long older l c f.parent y.pair y.at)) (order older l c e.parent f.parent x.pair y.pair lt x.at y.at)
        | inr (q, lt) ↦ (
            let same : word_at older l e.parent ≡ word_at older l f.parent = ap (word_at older l) q in
            rw same (less_behind (word_at older l f.parent) (e.cell ∷ []) (f.cell ∷ []) ∙ less_cell e.cell f.cell ∙ lt))
      ])

  -- ---- each source word on which nothing stopped leads to a pair, whose word isn't greater

  pub record IsIn (older : List (List Entry)) (layer : List Entry) (w : Word) : Type 0 where
    pub place : ℕ
    pub entry : Entry
    pub at : slice_get layer place ≡ Some entry
    pub source : entry.src ≡ source_by (padded w (length older))
    pub target : entry.dst ≡ target_by (padded w (length older))
    pub least : word_less (padded w (length older)) (word_at older layer place) ≡ false

  -- the next cell of a source word may stand there
  goes_next : (w : Word) → IsSourceWord src w → (p : ℕ) (from : List ℕ) → from ≡ source_by (padded w p) → Goes A src dst p from (cell_at w p)
  goes_next w word p from is =
      let size = hs.sized is_itself w word in (
        λ l e. (
            let (t, split) = padded_within w (suc p) (omega arith) in
            let some : source_by (padded w (suc p)) ≢ [] = (rs.source (padded w (suc p))).1 (t, subst (λ (z : Word). AutoWord (holds is_itself) src z) split word) in
            some (ap source_by (padded_more w p) ∙ reached_more is_itself src (padded w p) (cell_at w p) ∙ ap (λ (z : List ℕ). source_step A src dst z (symbol_of (cell_at w p))) (sym is) ∙ e)),
        λ l. cell_past w p (omega arith),
      )

  pub complete : (older : List (List Entry)) (layer : List Entry) → Chain older layer → (w : Word) → IsSourceWord src w → Past w (length older) → IsIn older layer w
  complete [] layer c w word passes =
      let start : src.starts ≢ [] = λ q. Contains-none _ (subst (λ (z : List ℕ). Contains z word.reaches.state) q word.reaches.among) in
      let (e, at) = c.some start in
      let (z, a, b, n) = c.each 0 e at in
      record { place = 0; entry = e; at = at; source = a; target = b; least = nothing_less }
  complete (l ∷ older) layer (next, none, c) w word passes =
      let p = length older in
      let d = cell_at w p in
      let x = complete older l c w word (λ q m. passes q (omega arith)) in
      let noskip : skip (is_live x.entry.dst) ≡ false = ap (λ (s : List ℕ). skip (is_live s)) x.target ∙ (passes p (omega arith)).1 in
      let within : x.place < length l = slice_get_within l x.place x.entry x.at in
      let r = next.done x.place x.entry d within x.at noskip (goes_next w word p x.entry.src x.source) in
      let (k, at) = among_get layer r.entry r.among in
      let f = next.from r.entry r.among in
      record {
        place = k;
        entry = r.entry;
        at = at;
        source = r.source ∙ ap (λ (z : List ℕ). source_step A src dst z (symbol_of d)) x.source ∙ sym (reached_more is_itself src (padded w p) d) ∙ ap source_by (sym (padded_more w p));
        target = r.target ∙ ap (λ (z : List ℕ). target_step A src dst z (symbol_of d)) x.target ∙ sym (reached_more A dst (padded w p) d) ∙ ap target_by (sym (padded_more w p));
        least = rw (padded_more w p, at_entry l older layer k r.entry at)
            (elim r.early [
              | inl lt ↦ (
                  let before = order older l c r.entry.parent x.place f.pair x.entry lt f.at x.at in
                  let less = less_most (word_at older l r.entry.parent) (word_at older l x.place) (padded w p) before x.least in
                  word_less-asym (word_at older l r.entry.parent ++ r.entry.cell ∷ []) (padded w p ++ d ∷ [])
                  (less_begins (word_at older l r.entry.parent) (padded w p) (r.entry.cell ∷ []) (d ∷ []) (long older l c r.entry.parent f.pair f.at ∙ sym (length-padded w p)) less))
              | inr (q, ge) ↦ (
                  let same : word_at older l r.entry.parent ≡ word_at older l x.place = ap (word_at older l) q in
                  rw same (last_not_less (word_at older l x.place) (padded w p) r.entry.cell d (long older l c x.place x.entry x.at ∙ sym (length-padded w p)) x.least ge))
            ]);
      }

  -- ---- what is found

  -- a word on which it stops isn't in a layer where none does
  stops_not : (older : List (List Entry)) (layer : List Entry) → Chain older layer → NoneStops stop (length older == dst.size) layer → (w : Word) → Stopped w (length older) → ⊥
  stops_not older layer c none w s =
      let x = complete older layer c w s.word s.passes in
      let a : stop (is_live (target_by (padded w (length older)))) (length older == dst.size) ≡ false = subst (λ (z : List ℕ). stop (is_live z) (length older == dst.size) ≡ false) x.target (none x.place x.entry x.at) in
      let b = s.stops in
      cc

  pub early : (older : List (List Entry)) (layer : List Entry) → Chain older layer → (w : Word) (p : ℕ) → p < length older → Stopped w p → ⊥
  early [] layer c w p l s = absurd (omega arith)
  early (x ∷ older) layer (next, none, c) w p l s = elim (cases_lt p (length older)) [
    | inl lt ↦ early older x c w p lt s
    | inr ge ↦ (let q : p ≡ length older = omega arith in stops_not older x c none w (subst (λ (n : ℕ). Stopped w n) q s))
  ]

  -- none stops in the layer at the target's end
  pub nothing : (older : List (List Entry)) (layer : List Entry) → Chain older layer → NoneStops stop (length older == dst.size) layer → length older ≡ dst.size → (w : Word) (p : ℕ) → Stopped w p → ⊥
  nothing older layer c none end w p s = elim (cases_lt p (length older)) [
    | inl lt ↦ early older layer c w p lt s
    | inr ge ↦ (let l = s.within in let q : p ≡ length older = omega arith in stops_not older layer c none w (subst (λ (n : ℕ). Stopped w n) q s))
  ]

  -- nothing is left to look at
  pub empty : (older : List (List Entry)) (layer : List Entry) → Chain older layer → layer ≡ [] → (w : Word) (p : ℕ) → Stopped w p → ⊥
  empty older layer c none w p s = elim (cases_lt p (length older)) [
    | inl lt ↦ early older layer c w p lt s
    | inr ge ↦ (
        let x = complete older layer c w s.word (λ q m. s.passes q (omega arith)) in
        let z = subst (λ (y : List Entry). slice_get y x.place ≡ Some x.entry) none x.at in
        cc)
  ]

  -- the cells that lead to it begin the least words on which it stops
  pub record IsLeastFront (u : Word) (p : ℕ) : Type 0 where
    pub whole : Word
    pub front : u ≡ padded whole p
    pub stopped : Stopped whole p
    pub earliest : (v : Word) (q : ℕ) → Stopped v q → p ≤ q
    pub least : (v : Word) → Stopped v p → word_less (padded v p) u ≡ false

  pub found : (older : List (List Entry)) (layer : List Entry) (k : ℕ) → Chain older layer → length older ≤ dst.size → IsFirstStop stop (length older == dst.size) layer k → IsLeastFront (word_at older layer k) (length older)
  found older layer k c l f =
      let m = means older layer c k f.entry f.at in
      record {
        whole = m.whole;
        front = m.front;
        stopped = record { word = m.word; within = l; stops = subst (λ (z : List ℕ). stop (is_live z) (length older == dst.size) ≡ true) m.target f.stops; passes = m.passes };
        earliest = λ v q s. elim (cases_lt q (length older)) [ inl lt ↦ absurd (early older layer c v q lt s) | inr ge ↦ ge ];
        least = λ v s.
            let x = complete older layer c v s.word s.passes in
            let st : stop (is_live x.entry.dst) (length older == dst.size) ≡ true = subst (λ (z : List ℕ). stop (is_live z) (length older == dst.size) ≡ true) (sym x.target) s.stops in
            elim (cases_lt x.place k) [
              | inl lt ↦ (let z = f.first x.place x.entry lt x.at in cc)
              | inr ge ↦ elim (cases_lt k x.place) [
                | inl lt ↦ word_less-asym (word_at older layer k) (padded v (length older)) (less_most (word_at older layer k) (word_at older layer x.place) (padded v (length older)) (order older layer c k x.place f.entry x.entry lt f.at x.at) x.least)
                | inr le ↦ (let same : x.place ≡ k = omega arith in subst (λ (n : ℕ). word_less (padded v (length older)) (word_at older layer n) ≡ false) same x.least)
              ]
            ];
      }

  -- ---- each set is one of states

  pub states : (hd : IsAutomaton dst) (older : List (List Entry)) (layer : List Entry) → Chain older layer → (e : Entry) → Contains layer e → HasStates A src dst e
  states hd [] layer c e m =
      let (k, at) = among_get layer e m in
      let (z, a, b, n) = c.each k e at in
      (subst (AreStates src) (sym a) hs.below, subst (AreStates dst) (sym b) hd.below)
  states hd (l ∷ older) layer (next, none, c) e m =
      let f = next.from e m in (
        subst (AreStates src) (sym f.step.source) (next_states is_itself (symbol_of e.cell) src hs f.pair.src),
        subst (AreStates dst) (sym f.step.target) (next_states A (symbol_of e.cell) dst hd f.pair.dst),
      )
