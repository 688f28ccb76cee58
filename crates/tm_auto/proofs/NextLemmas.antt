-- The set that a step makes, edge by edge, is the next one.
use Rattle.std.proofs.Common.{◌≡◌, ℕ, zero, suc, ◌+◌, ◌<◌, ◌≤◌, ◌⊎◌, inl, inr, Bool, true, cond, List, [], ◌∷◌, length, drop, refl, sym, ap, ◌∙◌, subst, arith, eq-eqb, add-one, drop-cons, get_or, Contains}
use Rattle.std.specs.Prelude.{◌==◌}
use Rattle.std.specs.List.Sorted.{IsStrictlyIncreasing}
use Rattle.tm_base.proofs.JudgedLemmas.{Contains-none}
use Rattle.tm_auto.specs.declared.edge.Edge.{Edge}
use Rattle.tm_auto.specs.declared.edge.Symbol.{Symbol}
use Rattle.tm_auto.specs.Automata.{Automaton, IsAutomaton, IsStep, AreStates, AreInLayer, edges_from}
use Rattle.tm_auto.specs.Paths.{IsPath}
use Rattle.tm_auto.specs.Sets.{with_state, with_ends, passes, next}
use Rattle.tm_auto.proofs.ContainsLemmas.{here, there, first_or_later}
use Rattle.tm_auto.proofs.SetLemmas.{bool_cases, same_at, with_state_to, with_state_has, with_state_keeps, with_state-IsStrictlyIncreasing, rises_same, increasing_rises}
use Rattle.tm_auto.proofs.StepLemmas.{next_to, to_next, next-IsStrictlyIncreasing}

-- the set with the ends of all edges that leave these states and pass the symbol
abbrev pub with_all_ends : (ℕ → ℕ → Bool) → Symbol → List Edge → List ℕ → List ℕ → List ℕ
with_all_ends A x es [] xs = xs
with_all_ends A x es (s ∷ ss) xs = with_all_ends A x es ss (with_ends A x (edges_from s es) xs)

pub among_from : (s : ℕ) (es : List Edge) (e : Edge) → Contains (edges_from s es) e → Contains es e × (e.from ≡ s)
among_from s [] e a = absurd (Contains-none _ a)
among_from s (f ∷ es) e a = elim (bool_cases (f.from == s)) [
  | inl b ↦ own f es e b (λ a. among_from s es e a) (subst (λ (z : Bool). Contains (cond z (f ∷ edges_from s es) (edges_from s es)) e) b a)
  | inr b ↦ (let (x, y) = among_from s es e (subst (λ (z : Bool). Contains (cond z (f ∷ edges_from s es) (edges_from s es)) e) b a) in (there _ _ x, y))
]
  where
    own : (f : Edge) (es : List Edge) (e : Edge) → (f.from == s) ≡ true → (Contains (edges_from s es) e → Contains es e × (e.from ≡ s)) → Contains (f ∷ edges_from s es) e → Contains (f ∷ es) e × (e.from ≡ s)
    own f es e b g m = elim (first_or_later _ _ m) [ inl q ↦ rw q (here _, same_at f.from s b) | inr a ↦ (let (x, y) = g a in (there _ _ x, y)) ]

pub from_among : (s : ℕ) (es : List Edge) (e : Edge) → Contains es e → e.from ≡ s → Contains (edges_from s es) e
from_among s [] e a q = absurd (Contains-none _ a)
from_among s (f ∷ es) e m q = elim (first_or_later _ _ m) [
  | inl is ↦ subst (λ (d : Edge). Contains (edges_from s (d ∷ es)) e) is (rw (eq-eqb e.from s q) (here _))
  | inr a ↦ elim (bool_cases (f.from == s)) [ inl b ↦ rw b (there _ _ (from_among s es e a q)) | inr b ↦ rw b (from_among s es e a q) ]
]

module _ (A : ℕ → ℕ → Bool) (x : Symbol) where
  -- an edge of these leads there and passes
  abbrev pub Ends : List Edge → ℕ → Type 0
  Ends es t = (e : Edge) × Contains es e × (passes A e.label x ≡ true) × (e.to ≡ t)

  ends_to : (es : List Edge) (xs : List ℕ) (t : ℕ) → Contains (with_ends A x es xs) t → Contains xs t ⊎ Ends es t
  ends_to [] xs t a = inl a
  ends_to (e ∷ es) xs t a = elim (bool_cases (passes A e.label x)) [
    | inl p ↦ elim (ends_to es (with_state e.to xs) t (subst (λ (b : Bool). Contains (with_ends A x es (cond b (with_state e.to xs) xs)) t) p a)) [
      | inl b ↦ elim (with_state_to e.to xs t b) [ inl q ↦ inr (e, here _, p, sym q) | inr c ↦ inl c ]
      | inr (f, fa, fp, fq) ↦ inr (f, there _ _ fa, fp, fq)
    ]
    | inr p ↦ elim (ends_to es xs t (subst (λ (b : Bool). Contains (with_ends A x es (cond b (with_state e.to xs) xs)) t) p a)) [ inl b ↦ inl b | inr (f, fa, fp, fq) ↦ inr (f, there _ _ fa, fp, fq) ]
  ]

  ends_keep : (es : List Edge) (xs : List ℕ) (t : ℕ) → Contains xs t → Contains (with_ends A x es xs) t
  ends_keep [] xs t a = a
  ends_keep (e ∷ es) xs t a = elim (bool_cases (passes A e.label x)) [ inl p ↦ rw p (ends_keep es (with_state e.to xs) t (with_state_keeps e.to xs t a)) | inr p ↦ rw p (ends_keep es xs t a) ]

  ends_has : (es : List Edge) (xs : List ℕ) (t : ℕ) → Ends es t → Contains (with_ends A x es xs) t
  ends_has [] xs t (f, fa, fp, fq) = absurd (Contains-none _ fa)
  ends_has (e ∷ es) xs t (f, m, fp, fq) = elim (first_or_later _ _ m) [
    | inl q ↦ subst (λ (d : Edge). Contains (with_ends A x (d ∷ es) xs) t) q (rw fp (ends_keep es (with_state f.to xs) t (subst (λ (z : ℕ). Contains (with_state f.to xs) z) fq (with_state_has f.to xs))))
    | inr fa ↦ elim (bool_cases (passes A e.label x)) [ inl p ↦ rw p (ends_has es (with_state e.to xs) t (f, fa, fp, fq)) | inr p ↦ rw p (ends_has es xs t (f, fa, fp, fq)) ]
  ]

  ends_rise : (es : List Edge) (xs : List ℕ) → IsStrictlyIncreasing xs → IsStrictlyIncreasing (with_ends A x es xs)
  ends_rise [] xs h = h
  ends_rise (e ∷ es) xs h = elim (bool_cases (passes A e.label x)) [ inl p ↦ rw p (ends_rise es (with_state e.to xs) (with_state-IsStrictlyIncreasing e.to xs h)) | inr p ↦ rw p (ends_rise es xs h) ]

  module _ (es : List Edge) where
    all_to : (ss xs : List ℕ) (t : ℕ) → Contains (with_all_ends A x es ss xs) t → Contains xs t ⊎ ((e : Edge) × Contains es e × Contains ss e.from × (passes A e.label x ≡ true) × (e.to ≡ t))
    all_to [] xs t a = inl a
    all_to (s ∷ ss) xs t a = elim (all_to ss (with_ends A x (edges_from s es) xs) t a) [
      | inl b ↦ elim (ends_to (edges_from s es) xs t b) [
        | inl c ↦ inl c
        | inr (e, ea, ep, eq) ↦ (let (m, f) = among_from s es e ea in inr (e, m, subst (λ (z : ℕ). Contains (s ∷ ss) z) (sym f) (here _), ep, eq))
      ]
      | inr (e, ea, ef, ep, eq) ↦ inr (e, ea, there _ _ ef, ep, eq)
    ]

    all_keep : (ss xs : List ℕ) (t : ℕ) → Contains xs t → Contains (with_all_ends A x es ss xs) t
    all_keep [] xs t a = a
    all_keep (s ∷ ss) xs t a = all_keep ss (with_ends A x (edges_from s es) xs) t (ends_keep (edges_from s es) xs t a)

    all_has : (ss xs : List ℕ) (e : Edge) → Contains es e → Contains ss e.from → passes A e.label x ≡ true → Contains (with_all_ends A x es ss xs) e.to
    all_has [] xs e a m p = absurd (Contains-none _ m)
    all_has (s ∷ ss) xs e a h p = elim (first_or_later _ _ h) [
      | inl q ↦ all_keep ss (with_ends A x (edges_from s es) xs) e.to (ends_has (edges_from s es) xs e.to (e, from_among s es e a q, p, refl))
      | inr m ↦ all_has ss (with_ends A x (edges_from s es) xs) e a m p
    ]

    all_rise : (ss xs : List ℕ) → IsStrictlyIncreasing xs → IsStrictlyIncreasing (with_all_ends A x es ss xs)
    all_rise [] xs h = h
    all_rise (s ∷ ss) xs h = all_rise ss (with_ends A x (edges_from s es) xs) (ends_rise (edges_from s es) xs h)

    pub with_all_ends-next : (from : List ℕ) → with_all_ends A x es from [] ≡ next A es from x
    with_all_ends-next from =
        let none : IsStrictlyIncreasing [] = λ k l. absurd (omega arith) in
        rises_same (with_all_ends A x es from []) (next A es from x) (increasing_rises _ (all_rise from [] none)) (increasing_rises _ (next-IsStrictlyIncreasing A es from x))
        (λ t a. elim (all_to from [] t a) [ inl b ↦ absurd (Contains-none _ b) | inr (e, ea, ef, ep, eq) ↦ subst (λ (z : ℕ). Contains (next A es from x) z) eq (to_next A es from x e ea ef ep) ])
        (λ t a. let (e, ea, ef, ep, eq) = next_to A es from x t a in subst (λ (z : ℕ). Contains (with_all_ends A x es from []) z) eq (all_has from [] e ea ef ep))

-- ---- along a path and the states of a set

pub path_more : (es : List Edge) (k a s : ℕ) (e : Edge) → IsPath es k a s → Contains es e → e.from ≡ s → IsPath es (suc k) a e.to
path_more es zero a s e p m q = (e, m, q ∙ sym p, refl)
path_more es (suc k) a s e (f, fm, ff, p) m q = (f, fm, ff, path_more es k f.to s e p m q)

module _ (A : ℕ → ℕ → Bool) (x : Symbol) where
  pub step_turn : (es : List Edge) (ss : List ℕ) (i : ℕ) (xs : List ℕ) → i < length ss → with_all_ends A x es (drop (i + 1) ss) (with_ends A x (edges_from (get_or ss i 0) es) xs) ≡ with_all_ends A x es (drop i ss) xs
  step_turn es ss i xs l = rw (add-one, drop-cons ss i 0) refl

  pub step_done : (es : List Edge) (ss from : List ℕ) (i : ℕ) (reached : List ℕ) → length ss ≤ i → with_all_ends A x es (drop i ss) reached ≡ with_all_ends A x es ss [] → ss ≡ from → reached ≡ next A es from x
  step_done es ss from i reached l e is =
      let none : drop i ss ≡ [] = drop_none ss i l in
      let whole : reached ≡ with_all_ends A x es ss [] = rw none at e in
      whole ∙ with_all_ends-next A x es ss ∙ ap (λ (z : List ℕ). next A es z x) is
    where
      drop_none : (ss : List ℕ) (i : ℕ) → length ss ≤ i → drop i ss ≡ []
      drop_none [] zero l = refl
      drop_none [] (suc i) l = refl
      drop_none (s ∷ ss) zero l = absurd (omega arith)
      drop_none (s ∷ ss) (suc i) l = drop_none ss i (omega arith)

  pub next_step : (auto : Automaton) (from : List ℕ) → IsStep A auto from x (next A auto.edges from x)
  next_step auto from = record {
    rising = next-IsStrictlyIncreasing A auto.edges from x;
    states = λ s. (λ m. next_to A auto.edges from x s m, λ (e, ea, ef, ep, eq). subst (λ (z : ℕ). Contains (next A auto.edges from x) z) eq (to_next A auto.edges from x e ea ef ep));
  }

  -- what a step makes of states is states, and of a layer the next one
  pub next_states : (auto : Automaton) → IsAutomaton auto → (from : List ℕ) → AreStates auto (next A auto.edges from x)
  next_states auto h from s m = let (e, ea, ef, ep, eq) = next_to A auto.edges from x s m in let (y, z) = h.down e ea in omega arith

  pub next_layer : (auto : Automaton) (from : List ℕ) (k : ℕ) → AreInLayer auto k from → AreInLayer auto (k + 1) (next A auto.edges from x)
  next_layer auto from k h s m =
      let (e, ea, ef, ep, eq) = next_to A auto.edges from x s m in
      let r = h e.from ef in
      let more : suc k ≡ k + 1 = omega arith in
      record { start = r.start; among = r.among; path = subst (λ (n : ℕ). IsPath auto.edges n r.start s) more (subst (λ (z : ℕ). IsPath auto.edges (suc k) r.start z) eq (path_more auto.edges k r.start e.from e r.path ea refl)) }
