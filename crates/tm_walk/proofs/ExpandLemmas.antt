-- The symbols by which a pair is expanded give all its steps.
use Rattle.std.proofs.Common.{◌≡◌, ◌≢◌, ℕ, ◌+◌, ◌<◌, ◌≤◌, inl, inr, Bool, false, List, [], ◌∷◌, length, drop, get_or, refl, sym, ap, subst, arith, Contains}
use Rattle.std.proofs.lemmas.Bool.{cases_lt}
use Rattle.std.proofs.lemmas.List.{drop_more, drop_all}
use Rattle.tm_base.specs.declared.cell.Cell.{Cell}
use Rattle.tm_base.specs.declared.cell.Cell.TheVariants as cell
use Rattle.tm_base.specs.Orders.{cell_less}
use Rattle.tm_base.specs.Transmutes.{is_itself}
use Rattle.tm_base.proofs.JudgedLemmas.{Contains-none, Contains-one}
use Rattle.tm_auto.specs.declared.edge.Edge.{Edge}
use Rattle.tm_auto.specs.declared.edge.Symbol.{Symbol}
use Rattle.tm_auto.specs.declared.edge.Symbol.TheVariants as symbol
use Rattle.tm_auto.specs.Automata.{Automaton, IsStep}
use Rattle.tm_auto.specs.Classes.{HasCell, IsFormed, AreInOrder, TakesFrom, AreClasses}
use Rattle.tm_auto.specs.Least.{first_cell}
use Rattle.tm_auto.specs.Sets.{has_state, passes, next, symbol_of}
use Rattle.tm_auto.proofs.ContainsLemmas.{here, there, some_among}
use Rattle.tm_auto.proofs.LeastLemmas.{first_in, first_least}
use Rattle.tm_auto.proofs.SetLemmas.{bool_cases, has_to, rises_same, increasing_rises}
use Rattle.tm_auto.proofs.StepLemmas.{passes_takes, next_to, to_next, next-IsStrictlyIncreasing}
use Rattle.tm_walk.specs.Layers.{Entry, Precedes, AreRising, IsOffered, AreOffered, source_step, target_step, offers, AreSymbols, IsStepFrom, AreStepsFrom}
use Rattle.tm_walk.proofs.NumberLemmas.{among_map, among_unmap}

-- two symbols that the same edges pass lead to the same set
pub next_same : (A : ℕ → ℕ → Bool) (es : List Edge) (from : List ℕ) (x y : Symbol) → ((e : Edge) → Contains es e → Contains from e.from → passes A e.label x ≡ passes A e.label y) → next A es from x ≡ next A es from y
next_same A [] from x y h = refl
next_same A (e ∷ es) from x y h =
    let rest = next_same A es from x y (λ f m l. h f (there _ _ m) l) in
    elim (bool_cases (has_state from e.from)) [
      | inl a ↦ (let p = h e (here _) (has_to from e.from a) in rw (p, rest) refl)
      | inr a ↦ rw (a, rest) refl
    ]

-- what a step leads to is told by the states alone
pub step_is : (A : ℕ → ℕ → Bool) (auto : Automaton) (from : List ℕ) (x : Symbol) (set : List ℕ) → IsStep A auto from x set → set ≡ next A auto.edges from x
step_is A auto from x set s = rises_same set (next A auto.edges from x) (increasing_rises set s.rising) (increasing_rises _ (next-IsStrictlyIncreasing A auto.edges from x))
    (λ t a. let (e, ea, ef, ep, eq) = (s.states t).0 a in subst (λ (z : ℕ). Contains (next A auto.edges from x) z) eq (to_next A auto.edges from x e ea ef ep))
    (λ t a. (s.states t).1 (next_to A auto.edges from x t a))

module _ (A : ℕ → ℕ → Bool) (src dst : Automaton) (from to : List ℕ) (k : ℕ) where
  abbrev offer : Symbol → Entry
  offer x = record { src = source_step A src dst from x; dst = target_step A src dst to x; parent = k; cell = first_cell x }

  -- the symbol at a place is offered, and then those behind it
  pub offer_turn : (xs : List Symbol) (i : ℕ) (d : Symbol) → i < length xs → (s t : List ℕ) (c : Cell)
      → IsStep is_itself src from (get_or xs i d) s → IsStep A dst to (get_or xs i d) t → c ≡ first_cell (get_or xs i d)
      → (before between after : List Entry) → IsOffered (record { src = s; dst = t; parent = k; cell = c }) before between
      → AreOffered (offers A src dst from to k (drop (i + 1) xs)) between after → AreOffered (offers A src dst from to k (drop i xs)) before after
  offer_turn xs i d l s t c hs ht hc before between after o rest =
      let a : s ≡ source_step A src dst from (get_or xs i d) = step_is is_itself src from (get_or xs i d) s hs in
      let b : t ≡ target_step A src dst to (get_or xs i d) = step_is A dst to (get_or xs i d) t ht in
      let same : ◌≡◌ {A = Entry} (record { src = s; dst = t; parent = k; cell = c }) (offer (get_or xs i d)) = rw (a, b, hc) refl in
      subst (λ (z : List Symbol). AreOffered (offers A src dst from to k z) before after) (sym (drop_more xs i d l))
      (between, subst (λ (z : Entry). IsOffered z before between) same o, rest)

  -- one symbol is offered
  pub only_offered : (x : Symbol) (s t : List ℕ) (c : Cell) → IsStep is_itself src from x s → IsStep A dst to x t → c ≡ first_cell x
      → (before after : List Entry) → IsOffered (record { src = s; dst = t; parent = k; cell = c }) before after → AreOffered (offers A src dst from to k (x ∷ [])) before after
  only_offered x s t c hs ht hc before after o = offer_turn (x ∷ []) 0 x (omega arith) s t c hs ht hc before after after o refl

  pub offers_end : (xs : List Symbol) (i : ℕ) → length xs ≤ i → (next : List Entry) → AreOffered (offers A src dst from to k (drop i xs)) next next
  offers_end xs i l next = subst (λ (z : List Symbol). AreOffered (offers A src dst from to k z) next next) (sym (drop_all i xs l)) refl

  pub offers_rise : (xs : List Symbol) → AreInOrder xs → ((x : Symbol) → Contains xs x → IsFormed x) → AreRising (offers A src dst from to k xs)
  offers_rise [] o f = tt
  offers_rise (x ∷ xs) o f = (
    λ e m. (let (y, n, q) = among_unmap offer xs e m in
        subst (λ (z : Entry). Precedes (offer x) z) q (inr (refl, o.0 y (first_cell x) (first_cell y) n (first_in x (f x (here _))) (first_in y (f y (there _ _ n)))))),
    offers_rise xs o.1 (λ y n. f y (there _ _ n)),
  )

  module _ (xs : List Symbol) (c : AreClasses src from dst to xs) where
    source_same : (x : Symbol) (d : Cell) → Contains xs x → HasCell x d → source_step A src dst from x ≡ source_step A src dst from (symbol_of d)
    source_same x d m h = next_same is_itself src.edges from x (symbol_of d) (λ e em ef. c.alike is_itself x d e m h (inl (em, ef)))

    target_same : (x : Symbol) (d : Cell) → Contains xs x → HasCell x d → target_step A src dst to x ≡ target_step A src dst to (symbol_of d)
    target_same x d m h = next_same A dst.edges to x (symbol_of d) (λ e em ef. c.alike A x d e m h (inr (em, ef)))

    taken : (d : Cell) → source_step A src dst from (symbol_of d) ≢ [] → TakesFrom src from d
    taken d some =
        let (s, m) = some_among _ some in
        let (e, ea, ef, ep, eq) = next_to is_itself src.edges from (symbol_of d) s m in
        (e, (ea, ef), (passes_takes is_itself e.label d).0 ep)

    takes_on : (d : Cell) → TakesFrom src from d → source_step A src dst from (symbol_of d) ≢ []
    takes_on d (e, (ea, ef), t) none =
        let m = to_next is_itself src.edges from (symbol_of d) e ea ef ((passes_takes is_itself e.label d).1 t) in
        Contains-none _ (subst (λ (z : List ℕ). Contains z e.to) none m)

    steps_within : (place : ℕ) → place < src.size → (p : Entry) → p.src ≡ from → p.dst ≡ to → AreStepsFrom A src dst place p k (offers A src dst from to k xs)
    steps_within place l p ps pd = record {
      each = λ e m.
          let (x, n, q) = among_unmap offer xs e m in
          let h = first_in x (c.formed x n) in
          subst (λ (z : Entry). IsStepFrom A src dst place p k z) q (record {
            parent = refl;
            goes = (λ w. subst (λ (z : List ℕ). source_step A src dst z (symbol_of (first_cell x)) ≢ []) (sym ps) (takes_on (first_cell x) ((c.covers (first_cell x)).1 (x, n, h))), λ w. absurd (omega arith));
            source = subst (λ (z : List ℕ). source_step A src dst from x ≡ source_step A src dst z (symbol_of (first_cell x))) (sym ps) (source_same x (first_cell x) n h);
            target = subst (λ (z : List ℕ). target_step A src dst to x ≡ target_step A src dst z (symbol_of (first_cell x))) (sym pd) (target_same x (first_cell x) n h);
          });
      rising = offers_rise xs c.ordered c.formed;
      covers = λ d g.
          let (x, n, h) = (c.covers d).0 (taken d (subst (λ (z : List ℕ). source_step A src dst z (symbol_of d) ≢ []) ps (g.0 l))) in (
            offer x,
            among_map offer xs x n,
            subst (λ (z : List ℕ). source_step A src dst from x ≡ source_step A src dst z (symbol_of d)) (sym ps) (source_same x d n h),
            subst (λ (z : List ℕ). target_step A src dst to x ≡ target_step A src dst z (symbol_of d)) (sym pd) (target_same x d n h),
            first_least x d h,
          );
    }

  steps_behind : (place : ℕ) → src.size ≤ place → (p : Entry) → p.src ≡ from → p.dst ≡ to → AreStepsFrom A src dst place p k (offers A src dst from to k (symbol.Uninit ∷ []))
  steps_behind place l p ps pd = record {
    each = λ e m. subst (λ (z : Entry). IsStepFrom A src dst place p k z) (Contains-one (offer symbol.Uninit) e m) (record {
      parent = refl;
      goes = (λ w. absurd (omega arith), λ w. refl);
      source = ap (λ (z : List ℕ). source_step A src dst z symbol.Uninit) (sym ps);
      target = ap (λ (z : List ℕ). target_step A src dst z symbol.Uninit) (sym pd);
    });
    rising = (λ f m. absurd (Contains-none _ m), tt);
    covers = λ d g.
        let u : d ≡ cell.Uninit = g.1 l in (
          offer symbol.Uninit,
          here [],
          subst (λ (z : Cell). source_step A src dst from symbol.Uninit ≡ source_step A src dst p.src (symbol_of z)) (sym u) (ap (λ (z : List ℕ). source_step A src dst z symbol.Uninit) (sym ps)),
          subst (λ (z : Cell). target_step A src dst to symbol.Uninit ≡ target_step A src dst p.dst (symbol_of z)) (sym u) (ap (λ (z : List ℕ). target_step A src dst z symbol.Uninit) (sym pd)),
          subst (λ (z : Cell). cell_less z cell.Uninit ≡ false) (sym u) refl,
        );
  }

  pub steps_are : (xs : List Symbol) (place : ℕ) → AreSymbols A src dst place from to xs → (p : Entry) → p.src ≡ from → p.dst ≡ to → AreStepsFrom A src dst place p k (offers A src dst from to k xs)
  steps_are xs place s p ps pd = elim (cases_lt place src.size) [
    | inl l ↦ steps_within xs (s.within l) place l p ps pd
    | inr l ↦ subst (λ (z : List Symbol). AreStepsFrom A src dst place p k (offers A src dst from to k z)) (sym (s.behind l)) (steps_behind place l p ps pd)
  ]

-- the first cell of the first class is the least that the source's states take
