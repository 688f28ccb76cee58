-- What paths spell once words are put in front of a state, case by case.
use Rattle.std.proofs.Common.{◌≡◌, ℕ, ◌<◌, ◌⊎◌, inl, inr, List, [], ◌∷◌, ◌++◌, refl, sym, ap, ◌∙◌, subst, arith, append_assoc, Contains}
use Rattle.std.proofs.lemmas.List.Elements.{Contains-append_left, Contains-append_right, Contains-append_cases}
use Rattle.tm_base.specs.declared.cell.Cell.{Cell}
use Rattle.tm_base.specs.Cells.{Word}
use Rattle.tm_base.specs.Transmutes.{holds}
use Rattle.tm_base.proofs.JudgedLemmas.{Contains-one}
use Rattle.tm_auto.specs.declared.build.Way.{Way}
use Rattle.tm_auto.specs.declared.edge.Edge.{Edge}
use Rattle.tm_auto.specs.declared.edge.Label.{Label}
use Rattle.tm_auto.specs.Builds.{Words, edges_by, Opens, IsSound, Grows}
use Rattle.tm_auto.specs.Labels.{Takes}
use Rattle.tm_auto.specs.Paths.{SpellsTo, Spells}
use Rattle.tm_auto.proofs.ContainsLemmas.{here, among_edges, edges_among}

-- the edges are kept
abbrev pub Kept : List Edge → List Edge → Type 0
Kept es fs = (e : Edge) → Contains es e → Contains fs e

-- what else there is leaves new states
abbrev pub New : ℕ → List Edge → List Edge → Type 0
New n es fs = (e : Edge) → Contains fs e → e.from < n → Contains es e

-- a word of P and then one of Q
abbrev pub Both : Words → Words → Words
Both P Q A w = (u : Word) × (v : Word) × (w ≡ u ++ v) × P A u × Q A v

abbrev pub Either : Words → Words → Words
Either P Q A w = P A w ⊎ Q A w

-- one cell that the label takes
abbrev pub CellWords : Label → Words
CellWords label A w = (c : Cell) × Takes (holds A) label c × (w ≡ c ∷ [])

module _ (A : ℕ → ℕ → Type 0) where
  pub leads_more : (es fs : List Edge) (w : Word) (s t : ℕ) → Kept es fs → SpellsTo A es w s t → SpellsTo A fs w s t
  leads_more es fs [] s t kept h = h
  leads_more es fs (c ∷ w) s t kept (e, a, f, k, r) = (e, kept e a, f, k, leads_more es fs w e.to t kept r)

  pub leads_less : {p : ℕ} (es fs : List Edge) (n : ℕ) → IsSound p es n → New n es fs → (w : Word) (s t : ℕ) → s < n → SpellsTo A fs w s t → SpellsTo A es w s t
  leads_less es fs n sound new [] s t below h = h
  leads_less es fs n sound new (c ∷ w) s t below (e, a, f, k, r) =
      let old : Contains es e = new e a (rw f below) in
      let x = sound.from e old in
      let y = sound.down e old in
      (e, old, f, k, leads_less es fs n sound new w e.to t (omega arith) r)

  -- one cell, by one way
  pub grows_way : (es : List Edge) (label : Label) (target : ℕ) → Grows A (λ w. (c : Cell) × Takes A label c × (w ≡ c ∷ [])) es es (record { label = label; to = target } ∷ []) target
  grows_way es label target = record {
    forth = λ w r.
        let one = sym (Contains-one (record { label = label; to = target }) r.way r.among) in
        (r.cell ∷ [], r.rest, r.is, (r.cell, subst (λ (y : Way). Takes A y.label r.cell) one r.takes, refl), subst (λ (y : Way). Spells A es r.rest y.to) one r.spells);
    back = λ u v (c, t, e) r. record { way = record { label = label; to = target }; among = here []; cell = c; rest = v; is = ap (λ (z : Word). z ++ v) e; takes = t; spells = r };
  }

  -- a word of P in front of a state from which one of Q leads on
  pub grows_before : (P Q : Word → Type 0) (es fs gs : List Edge) (ways : List Way) (target state : ℕ)
      → ((w : Word) → Spells A fs w state → (u : Word) × (v : Word) × (w ≡ u ++ v) × Q u × Spells A es v target)
      → ((u v : Word) → Q u → Spells A es v target → Spells A fs (u ++ v) state)
      → Grows A P fs gs ways state → Grows A (λ w. (u : Word) × (v : Word) × (w ≡ u ++ v) × P u × Q v) es gs ways target
  grows_before P Q es fs gs ways target state forth back p = record {
    forth = λ w r.
        let (u, x, eu, hu, r2) = p.forth w r in
        let (v, y, ev, hv, r3) = forth x r2 in
        (u ++ v, y, eu ∙ ap (λ z. u ++ z) ev ∙ sym (append_assoc u v y), (u, v, refl, hu, hv), r3);
    back = λ w y (u, v, e, hu, hv) r.
        subst (λ z. Opens A gs ways z) (sym (ap (λ z. z ++ y) e ∙ append_assoc u v y)) (p.back u (v ++ y) hu (back v y hv r));
  }

  -- a word of P or one of Q, in front of the same state
  pub grows_either : {i j : ℕ} (P Q : Word → Type 0) (es fs gs : List Edge) (n m : ℕ) (firsts seconds : List Way) (target : ℕ) → IsSound i es n → IsSound j fs m → target < n
      → ((way : Way) → Contains firsts way → way.to < m) → Kept es fs → New n es fs → Kept fs gs → New m fs gs
      → Grows A P es fs firsts target → Grows A Q fs gs seconds target → Grows A (λ w. P w ⊎ Q w) es gs (firsts ++ seconds) target
  grows_either P Q es fs gs n m firsts seconds target sound sound2 below below2 kept new kept2 new2 p q = record {
    forth = λ w r. elim (Contains-append_cases firsts seconds _ r.among) [
      | inl b ↦ (
          let r1 : Opens A fs firsts w = record { way = r.way; among = b; cell = r.cell; rest = r.rest; is = r.is; takes = r.takes; spells = leads_less fs gs m sound2 new2 r.rest r.way.to 0 (below2 r.way b) r.spells } in
          let (u, x, eu, hu, r2) = p.forth w r1 in
          (u, x, eu, inl hu, r2))
      | inr b ↦ (
          let r1 : Opens A gs seconds w = record { way = r.way; among = b; cell = r.cell; rest = r.rest; is = r.is; takes = r.takes; spells = r.spells } in
          let (u, x, eu, hu, r2) = q.forth w r1 in
          (u, x, eu, inr hu, leads_less es fs n sound new x target 0 below r2))
    ];
    back = λ u v h r. elim h [
      | inl hu ↦ (
          let x = p.back u v hu r in
          record { way = x.way; among = Contains-append_left _ seconds _ x.among; cell = x.cell; rest = x.rest; is = x.is; takes = x.takes; spells = leads_more fs gs x.rest x.way.to 0 kept2 x.spells })
      | inr hu ↦ (
          let x = q.back u v hu (leads_more es fs v target 0 kept r) in
          record { way = x.way; among = Contains-append_right firsts _ _ x.among; cell = x.cell; rest = x.rest; is = x.is; takes = x.takes; spells = x.spells })
    ];
  }

  -- other words that are the same
  pub grows_same : (P Q : Word → Type 0) (es fs : List Edge) (ways : List Way) (target : ℕ) → ((u : Word) → P u → Q u) → ((u : Word) → Q u → P u) → Grows A P es fs ways target → Grows A Q es fs ways target
  grows_same P Q es fs ways target to from g = record {
    forth = λ w r. let (u, v, e, h, x) = g.forth w r in (u, v, e, to u h, x);
    back = λ u v h r. g.back u v (from u h) r;
  }

  pub sealed_new : (es : List Edge) (n : ℕ) (ways : List Way) → New n es (es ++ edges_by n ways)
  sealed_new es n ways e a l = elim (Contains-append_cases es (edges_by n ways) _ a) [ inl b ↦ b | inr b ↦ (let h = (among_edges n ways e b).1 in absurd (omega arith)) ]

  -- what is spelled from the state that the ways were given
  pub sealed_forth : {p : ℕ} (es : List Edge) (n : ℕ) (ways : List Way) → IsSound p es n → ((way : Way) → Contains ways way → way.to < n) → (w : Word) → SpellsTo A (es ++ edges_by n ways) w n 0 → Opens A es ways w
  sealed_forth es n ways sound below [] h = let z = sound.some in absurd (omega arith)
  sealed_forth es n ways sound below (c ∷ w) (e, a, f, t, r) = elim (Contains-append_cases es (edges_by n ways) _ a) [
    | inl b ↦ (let h = sound.from e b in absurd (omega arith))
    | inr b ↦ (
        let m = (among_edges n ways e b).0 in
        record { way = record { label = e.label; to = e.to }; among = m; cell = c; rest = w; is = refl; takes = t; spells = leads_less es (es ++ edges_by n ways) n sound (sealed_new es n ways) w e.to 0 (below _ m) r })
  ]

  pub sealed_back : (es : List Edge) (n : ℕ) (ways : List Way) (w : Word) → Opens A es ways w → SpellsTo A (es ++ edges_by n ways) w n 0
  sealed_back es n ways w r = subst (λ (z : Word). SpellsTo A (es ++ edges_by n ways) z n 0) (sym r.is) (
    record { from = n; to = r.way.to; label = r.way.label },
    Contains-append_right es _ _ (edges_among n r.way ways r.among),
    refl,
    r.takes,
    leads_more es (es ++ edges_by n ways) r.rest r.way.to 0 (λ d a. Contains-append_left _ (edges_by n ways) _ a) r.spells,
  )
