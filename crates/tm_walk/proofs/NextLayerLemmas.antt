-- One pair after the other is expanded into the next layer.
use Rattle.std.proofs.Common.{◌≡◌, ℕ, zero, suc, ◌+◌, ◌<◌, ◌≤◌, inl, inr, Bool, true, false, List, [], ◌∷◌, ◌++◌, length, take, Some, Result, Ok, Err, OnOk, slice_get, add-one, refl, sym, ap, ◌∙◌, subst, arith, Contains}
use Rattle.std.proofs.lemmas.Bool.{cases_lt}
use Rattle.std.proofs.lemmas.Option.{same_Some}
use Rattle.std.proofs.lemmas.List.Elements.{Contains-append_left, Contains-append_right, Contains-append_cases}
use Rattle.tm_base.specs.declared.cell.Cell.{Cell}
use Rattle.tm_base.specs.Orders.{cell_less}
use Rattle.tm_base.proofs.OrderLemmas.{cell_less-total, cell_less-trans, cell_less-asym}
use Rattle.tm_base.proofs.JudgedLemmas.{Contains-none}
use Rattle.tm_auto.specs.declared.edge.Symbol.{Symbol}
use Rattle.tm_auto.specs.Automata.{Automaton, AreStates}
use Rattle.tm_auto.specs.Sets.{symbol_of}
use Rattle.tm_auto.proofs.SetLemmas.{bool_cases}
use Rattle.tm_walk.specs.Layers.{is_live, IsFirstStop, weight, weights, weight_at, Entry, HasStates, AreSymbols, offers, AreOffered, source_step, target_step, Goes, IsStepFrom, AreStepsFrom, IsExpanded, IsReached, IsNext}
use Rattle.tm_walk.proofs.ExpandLemmas.{steps_are}
use Rattle.tm_walk.proofs.NumberLemmas.{get_among}
use Rattle.tm_walk.proofs.OfferLemmas.{Keeps, keeps, rising-append, apart-append}

-- a cell that isn't less than one that isn't less than a third isn't less than that
pub not_less_trans : (c d e : Cell) → cell_less c d ≡ false → cell_less d e ≡ false → cell_less c e ≡ false
not_less_trans c d e a b = elim (bool_cases (cell_less c e)) [
  | inr z ↦ z
  | inl z ↦ elim (bool_cases (cell_less d c)) [
    | inl y ↦ (let w = cell_less-trans d c e y z in cc)
    | inr y ↦ (let same : c ≡ d = cell_less-total c d a y in let w = subst (λ (x : Cell). cell_less x e ≡ true) same z in cc)
  ]
]

module _ (A : ℕ → ℕ → Bool) (src dst : Automaton) (skip : Bool → Bool) (place : ℕ) (layer : List Entry) where
  pub next_none : IsNext A src dst skip place layer 0 []
  next_none = record {
    from = λ e m. absurd (Contains-none _ m);
    before = λ e m. absurd (Contains-none _ m);
    rising = tt;
    apart = tt;
    done = λ k x c l. absurd (omega arith);
  }

  reached_left : (next more : List Entry) (x : Entry) (k : ℕ) (c : Cell) → IsReached A src dst skip place layer next x k c → IsReached A src dst skip place layer (next ++ more) x k c
  reached_left next more x k c r = record { entry = r.entry; among = Contains-append_left _ more _ r.among; source = r.source; target = r.target; early = r.early }

  -- a skipped pair makes nothing
  next_skipped : (n : ℕ) (next : List Entry) (p : Entry) → IsNext A src dst skip place layer n next → slice_get layer n ≡ Some p → skip (is_live p.dst) ≡ true → IsNext A src dst skip place layer (n + 1) next
  next_skipped n next p i at skipped = record {
    from = i.from;
    before = λ e m. let b = i.before e m in omega arith;
    rising = i.rising;
    apart = i.apart;
    done = λ k x c l a s g. elim (cases_lt k n) [
      | inl m ↦ i.done k x c m a s g
      | inr m ↦ (
          let q : k ≡ n = omega arith in
          let same : x ≡ p = same_Some x p (sym a ∙ ap (slice_get layer) q ∙ at) in
          let z = subst (λ (y : Entry). skip (is_live y.dst) ≡ false) same s in
          cc)
    ];
  }

  module _ (n : ℕ) (next after : List Entry) (p : Entry) (i : IsNext A src dst skip place layer n next) (at : slice_get layer n ≡ Some p) (goes_on : skip (is_live p.dst) ≡ false)
      (es : List Entry) (s : AreStepsFrom A src dst place p n es) (offered : AreOffered es next after) where
    new_parent : (k : Keeps es next after) (e : Entry) → Contains k.more e → e.parent ≡ n
    new_parent k e m = (s.each e (k.from e m)).parent

    next_grown : (k : Keeps es next after) → IsNext A src dst skip place layer (n + 1) (next ++ k.more)
    next_grown k = record {
      from = λ e m. elim (Contains-append_cases next k.more _ m) [
        | inl a ↦ i.from e a
        | inr a ↦ (
            let q = new_parent k e a in
            record {
              pair = p;
              at = ap (slice_get layer) q ∙ at;
              goes_on = goes_on;
              step = subst (λ (z : ℕ). IsStepFrom A src dst place p z e) (sym q) (s.each e (k.from e a));
            })
      ];
      before = λ e m. elim (Contains-append_cases next k.more _ m) [
        | inl a ↦ (let b = i.before e a in omega arith)
        | inr a ↦ (let q = new_parent k e a in omega arith)
      ];
      rising = rising-append next k.more i.rising k.rising (λ e f m o. inl (let b = i.before e m in let q = new_parent k f o in omega arith));
      apart = apart-append next k.more i.apart k.apart k.fresh;
      done = λ j x c l a t g. elim (cases_lt j n) [
        | inl m ↦ reached_left next k.more x j c (i.done j x c m a t g)
        | inr m ↦ (
            let q : j ≡ n = omega arith in
            let same : x ≡ p = same_Some x p (sym a ∙ ap (slice_get layer) q ∙ at) in
            let (o, om, os, od, ol) = s.covers c (subst (λ (y : Entry). Goes A src dst place y.src c) same g) in
            let h = k.early o om in
            let parent : o.parent ≡ n = (s.each o om).parent in
            record {
              entry = h.entry;
              among = elim h.where_ [ inl b ↦ Contains-append_left _ k.more _ b | inr b ↦ Contains-append_right next _ _ b.0 ];
              source = h.same.0 ∙ os ∙ ap (λ (y : Entry). source_step A src dst y.src (symbol_of c)) (sym same);
              target = h.same.1 ∙ od ∙ ap (λ (y : Entry). target_step A src dst y.dst (symbol_of c)) (sym same);
              early = elim h.where_ [
                | inl b ↦ inl (let z = i.before h.entry b in omega arith)
                | inr b ↦ elim b.1 [
                  | inl e ↦ inr (ap (λ (y : Entry). y.parent) e ∙ parent ∙ sym q, subst (λ (y : Entry). cell_less c y.cell ≡ false) (sym e) ol)
                  | inr e ↦ elim e [
                    | inl z ↦ inl (omega arith)
                    | inr z ↦ inr (z.0 ∙ parent ∙ sym q, not_less_trans c o.cell h.entry.cell ol (cell_less-asym h.entry.cell o.cell z.1))
                  ]
                ]
              ];
            })
      ];
    }

    next_stepped : IsNext A src dst skip place layer (n + 1) after
    next_stepped = let k = keeps es next after s.rising offered in subst (λ (z : List Entry). IsNext A src dst skip place layer (n + 1) z) (sym k.is) (next_grown k)

  -- one more pair is expanded
  pub next_more : (n : ℕ) (next after : List Entry) → IsNext A src dst skip place layer n next → IsExpanded A src dst skip place layer n next after → IsNext A src dst skip place layer (n + 1) after
  next_more n next after i x = elim x.either [
    | inl a ↦ subst (λ (z : List Entry). IsNext A src dst skip place layer (n + 1) z) (sym a.1) (next_skipped n next x.pair i x.at a.0)
    | inr a ↦ (let (es, s, offered) = a.1 in next_stepped n next after x.pair i x.at a.0 es s offered)
  ]

-- ---- how many pairs are expanded

pub weights_more : (skip : Bool → Bool) (layer : List Entry) (i : ℕ) (x : Entry) → slice_get layer i ≡ Some x → weights skip (take (suc i) layer) ≡ weights skip (take i layer) + weight skip x
weights_more skip [] i x h = cc
weights_more skip (e ∷ es) zero x h = let q : e ≡ x = cc in let z = ap (weight skip) q in omega arith
weights_more skip (e ∷ es) (suc i) x h = let r = weights_more skip es i x h in omega arith

pub weights_most : (skip : Bool → Bool) (layer : List Entry) (i : ℕ) → weights skip (take i layer) ≤ weights skip layer
weights_most skip [] zero = omega arith
weights_most skip [] (suc i) = omega arith
weights_most skip (e ∷ es) zero = omega arith
weights_most skip (e ∷ es) (suc i) = let h = weights_most skip es i in omega arith

-- where no two are both expanded, at most one is
pub weights_one : (skip : Bool → Bool) (layer : List Entry) → ((j k : ℕ) (e f : Entry) → j < k → slice_get layer j ≡ Some e → slice_get layer k ≡ Some f → skip (is_live e.dst) ≡ false → skip (is_live f.dst) ≡ false → ⊥) → weights skip layer ≤ 1
weights_one skip [] h = omega arith
weights_one skip (e ∷ es) h = elim (bool_cases (skip (is_live e.dst))) [
  | inl a ↦ rw a (let r = weights_one skip es (λ j k x y l p q s t. h (suc j) (suc k) x y (omega arith) p q s t) in omega arith)
  | inr a ↦ rw a (let r : weights skip es ≡ 0 = none es (λ k y q t. h 0 (suc k) e y (omega arith) refl q a t) in omega arith)
]
  where
    none : (fs : List Entry) → ((k : ℕ) (y : Entry) → slice_get fs k ≡ Some y → skip (is_live y.dst) ≡ false → ⊥) → weights skip fs ≡ 0
    none [] g = refl
    none (f ∷ fs) g = elim (bool_cases (skip (is_live f.dst))) [
      | inl a ↦ rw a (let r = none fs (λ k y q t. g (suc k) y q t) in omega arith)
      | inr a ↦ absurd (g 0 f refl a)
    ]

pub weight_at-entry : (skip : Bool → Bool) (layer : List Entry) (i : ℕ) (x : Entry) → slice_get layer i ≡ Some x → weight_at skip layer i ≡ weight skip x
weight_at-entry skip [] i x h = cc
weight_at-entry skip (e ∷ es) zero x h = let q : e ≡ x = cc in ap (weight skip) q
weight_at-entry skip (e ∷ es) (suc i) x h = weight_at-entry skip es i x h

-- what is read of the pair that is expanded: its sets, and that it isn't skipped
module _ (skip : Bool → Bool) (layer : List Entry) (k : ℕ) (from to : List ℕ) (read : (e : Entry) × (slice_get layer k ≡ Some e) × (from ≡ e.src) × (to ≡ e.dst)) where
  pub goes_on_weight : (skipped : Bool) → skipped ≡ skip (is_live to) → skipped ≡ false → weight_at skip layer k ≡ 1
  goes_on_weight skipped is e =
      let (x, at, s, d) = read in
      let z : skip (is_live x.dst) ≡ false = ap (λ (y : List ℕ). skip (is_live y)) (sym d) ∙ sym is ∙ e in
      weight_at-entry skip layer k x at ∙ rw z refl

  module _ (A : ℕ → ℕ → Bool) (src dst : Automaton) where
    pub read_source : ((e : Entry) → Contains layer e → HasStates A src dst e) → AreStates src from
    read_source all = let (x, at, s, d) = read in subst (AreStates src) (sym s) (all x (get_among layer k x at)).0

    pub read_target : ((e : Entry) → Contains layer e → HasStates A src dst e) → AreStates dst to
    read_target all = let (x, at, s, d) = read in subst (AreStates dst) (sym d) (all x (get_among layer k x at)).1

    pub skipped_expanded : (place : ℕ) (skipped : Bool) → skipped ≡ skip (is_live to) → skipped ≡ true → (next : List Entry) → IsExpanded A src dst skip place layer k next next
    skipped_expanded place skipped is e next =
        let (x, at, s, d) = read in
        record { pair = x; at = at; either = inl (ap (λ (y : List ℕ). skip (is_live y)) (sym d) ∙ sym is ∙ e, refl) }

    pub steps_expanded : (place : ℕ) (skipped : Bool) → skipped ≡ skip (is_live to) → skipped ≡ false → (symbols : List Symbol) → AreSymbols A src dst place from to symbols
        → (before after : List Entry) → AreOffered (offers A src dst from to k symbols) before after → IsExpanded A src dst skip place layer k before after
    steps_expanded place skipped is e symbols a before after o =
        let (x, at, s, d) = read in
        record {
          pair = x;
          at = at;
          either = inr (ap (λ (y : List ℕ). skip (is_live y)) (sym d) ∙ sym is ∙ e, (offers A src dst from to k symbols, steps_are A src dst from to k symbols place a x (sym s) (sym d), o));
        }

pub on_ok : {X E : Type 0} {P Q : Type 0} (r : Result X E) → (P → Q) → OnOk r P → OnOk r Q
on_ok (Ok x) f h = f h
on_ok (Err e) f h = h

-- the cost up to one more pair
pub weights_turn : (skip : Bool → Bool) (layer : List Entry) (i first before after : ℕ) → i < length layer → before ≤ first + weights skip (take i layer) → after ≤ before + weight_at skip layer i → after ≤ first + weights skip (take (i + 1) layer)
weights_turn skip layer i first before after l b a =
    let (x, at) = inside layer i l in
    let m = weights_more skip layer i x at in
    let w = weight_at-entry skip layer i x at in
    rw add-one (omega arith)
  where
    inside : (xs : List Entry) (i : ℕ) → i < length xs → (x : Entry) × (slice_get xs i ≡ Some x)
    inside [] i l = absurd (omega arith)
    inside (x ∷ xs) zero l = (x, refl)
    inside (x ∷ xs) (suc i) l = inside xs i (omega arith)

-- the first pair on which the quantifier stops, as it is read
pub stop_found : (stop : Bool → Bool → Bool) (at_end : Bool) (layer : List Entry) (k : ℕ) (from to : List ℕ)
    → (e : Entry) × (slice_get layer k ≡ Some e) × (from ≡ e.src) × (to ≡ e.dst) → (live : Bool) → live ≡ is_live to → (stops : Bool) → stops ≡ stop live at_end → stops ≡ true
    → ((j : ℕ) (e : Entry) → j < k → slice_get layer j ≡ Some e → stop (is_live e.dst) at_end ≡ false) → IsFirstStop stop at_end layer k
stop_found stop at_end layer k from to (e, at, s, t) live l stops h stopped first = record {
  entry = e;
  at = at;
  stops = ap (λ (z : List ℕ). stop (is_live z) at_end) (sym t) ∙ ap (λ (b : Bool). stop b at_end) (sym l) ∙ sym h ∙ stopped;
  first = first;
}
