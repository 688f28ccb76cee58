-- What a layer of obligations says of source words, and what the last one answers.
use Rattle.std.proofs.Common.{◌≡◌, ◌≢◌, ℕ, suc, ◌+◌, ◌<◌, ◌≤◌, inl, inr, ◌↔◌, Bool, true, false, not, IsTrue, List, [], ◌∷◌, length, drop, refl, sym, ap, ◌∙◌, subst, arith, Contains}
use Rattle.std.specs.List.{list_any}
use Rattle.std.proofs.lemmas.Bool.{cases_lt}
use Rattle.std.proofs.lemmas.List.{drop_more, drop_all}
use Rattle.tm_base.specs.declared.cell.Cell.TheVariants.{Uninit}
use Rattle.tm_base.specs.Cells.{Word}
use Rattle.tm_base.specs.Transmutes.{holds, is_itself}
use Rattle.tm_base.proofs.JudgedLemmas.{Contains-none}
use Rattle.tm_auto.specs.declared.edge.Edge.{Edge}
use Rattle.tm_auto.specs.declared.edge.Symbol.{Symbol}
use Rattle.tm_auto.specs.Automata.{Automaton, IsAutomaton, ReadsWords, reached}
use Rattle.tm_auto.specs.Paths.{Spells}
use Rattle.tm_auto.specs.Sets.{next, symbol_of}
use Rattle.tm_auto.proofs.ContainsLemmas.{some_among}
use Rattle.tm_auto.proofs.StepLemmas.{next_to, to_next}
use Rattle.tm_walk.specs.declared.obligation.Obligation.{Obligation}
use Rattle.tm_walk.specs.Layers.{is_live}
use Rattle.tm_walk.specs.Meanings.{EachWordFits}
use Rattle.tm_walk.specs.Obligations.{is_refused, AreAdded, IsFirst, Follows, FollowsSome}
use Rattle.tm_walk.specs.Sought.{IsSourceWord}
use Rattle.tm_walk.proofs.ChainLemmas.{reached_more}
use Rattle.tm_walk.proofs.ImpliesLemmas.{any_to, none_of, implies_to}
use Rattle.tm_walk.proofs.PaddedLemmas.{padded, cell_at, cell_past, padded_more}
use Rattle.tm_walk.proofs.SoundLemmas.{IsSound, first_sound, next_sound}
use Rattle.tm_walk.proofs.ViableLemmas.{tells_live, live_some, viable_earlier, viable_fits, fits_viable}
use Rattle.tm_walk.proofs.WithinLemmas.{AreOf}

-- from more states a step leads to more
next_more : (A : ℕ → ℕ → Bool) (es : List Edge) (from more : List ℕ) (x : Symbol) → AreOf from more → AreOf (next A es from x) (next A es more x)
next_more A es from more x f s m =
    let (e, ea, ef, ep, eq) = next_to A es from x s m in
    subst (λ (z : ℕ). Contains (next A es more x) z) eq (to_next A es more x e ea (f e.from ef) ep)

module _ (A : ℕ → ℕ → Bool) (src dst : Automaton) where
  -- the rest of a source word leads from the state to the end, and what its cells before reach in the target meets it
  pub record IsMet (place : ℕ) (w : Word) (o : Obligation) : Type 0 where
    pub rest : Spells (holds is_itself) src.edges (drop place w) o.state
    pub target : AreOf o.target (reached A dst (padded w place))

  -- each obligation is some word's, and each word has one
  pub record IsLayer (place : ℕ) (layer : List Obligation) : Type 0 where
    pub sound : (o : Obligation) → Contains layer o → IsSound A src dst place o
    pub complete : (w : Word) → IsSourceWord src w → (o : Obligation) × Contains layer o × IsMet place w o

module _ (A : ℕ → ℕ → Bool) (src dst : Automaton) (hs : IsAutomaton src) (rs : ReadsWords src) (hd : IsAutomaton dst) (rd : ReadsWords dst) where
  abbrev Layer : ℕ → List Obligation → Type 0
  Layer place layer = IsLayer A src dst place layer

  pub first_layer : (layer : List Obligation) → AreAdded (IsFirst src dst) [] layer → Layer 0 layer
  first_layer layer a = record {
    sound = λ o m. elim (a.from o m) [ inl n ↦ absurd (Contains-none _ n) | inr f ↦ first_sound A src dst hs rs hd rd o f ];
    complete = λ w word.
        let s = word.reaches.state in
        let o : Obligation = record { state = s; target = dst.starts } in
        let (p, m, i) = a.added o (record { state = word.reaches.among; target = refl }) in
        let (same, of) = implies_to p o i in
        (p, m, record { rest = subst (λ (z : ℕ). Spells (holds is_itself) src.edges w z) (sym same) word.reaches.spells; target = of });
  }

  -- the word's next cell leads on to an obligation that it meets
  next_met : (place : ℕ) (w : Word) (o : Obligation) → IsSourceWord src w → IsMet A src dst place w o
      → (p : Obligation) × Follows A src dst place o p × IsMet A src dst (suc place) w p
  next_met place w o word met =
      let size = hs.sized is_itself w word in
      let c = cell_at w place in
      let more : AreOf (next A dst.edges o.target (symbol_of c)) (reached A dst (padded w (suc place))) =
      subst (λ (z : List ℕ). AreOf (next A dst.edges o.target (symbol_of c)) z) (sym (reached_more A dst (padded w place) c) ∙ ap (reached A dst) (sym (padded_more w place)))
      (next_more A dst.edges o.target (reached A dst (padded w place)) (symbol_of c) met.target) in
      elim (cases_lt place src.size) [
        | inl l ↦ (
            let less : place < length w = omega arith in
            let more_cells : place + 1 ≡ suc place = omega arith in
            let (e, ea, ef, t, rest) = subst (λ (z : Word). Spells (holds is_itself) src.edges z o.state) (drop_more w place Uninit less) met.rest in (
              record { state = e.to; target = next A dst.edges o.target (symbol_of c) },
              (c, inl (l, (e, ea, ef, t, refl)), refl),
              record { rest = subst (λ (n : ℕ). Spells (holds is_itself) src.edges (drop n w) e.to) more_cells rest; target = more },
            ))
        | inr l ↦ (
            let past : length w ≤ place = omega arith in
            let gone : drop place w ≡ drop (suc place) w = drop_all place w past ∙ sym (drop_all (suc place) w (omega arith)) in (
              record { state = o.state; target = next A dst.edges o.target (symbol_of c) },
              (c, inr (l, cell_past w place past, refl), refl),
              record { rest = subst (λ (z : Word). Spells (holds is_itself) src.edges z o.state) gone met.rest; target = more },
            ))
      ]

  pub next_layer : (place : ℕ) (layer after : List Obligation) → Layer place layer → AreAdded (FollowsSome A src dst place layer) [] after → Layer (place + 1) after
  next_layer place layer after i a = let more : suc place ≡ place + 1 = omega arith in subst (λ (n : ℕ). Layer n after) more (record {
    sound = λ p m. elim (a.from p m) [ inl n ↦ absurd (Contains-none _ n) | inr (o, n, f) ↦ next_sound A src dst hs rs hd rd place o p (i.sound o n) f ];
    complete = λ w word.
        let (o, n, met) = i.complete w word in
        let (p, f, more) = next_met place w o word met in
        let (r, m, imp) = a.added p (o, n, f) in
        let (same, of) = implies_to r p imp in
        (r, m, record { rest = subst (λ (z : ℕ). Spells (holds is_itself) src.edges (drop (suc place) w) z) (sym same) more.rest; target = λ s k. more.target s (of s k) });
  })

  -- ---- what is answered

  live_not_refused : (o : Obligation) → not (is_live o.target) ≡ true → o.target ≡ []
  live_not_refused o e = by o.target e
    where
      by : (xs : List ℕ) → not (is_live xs) ≡ true → xs ≡ []
      by [] e = refl
      by (x ∷ xs) e = cc

  -- an obligation that nothing is left to meet is that of a word that doesn't fit
  pub refused : (place : ℕ) (layer : List Obligation) → place ≤ dst.size → Layer place layer → list_any is_refused layer ≡ true → ¬ EachWordFits A src dst
  refused place layer l i e each =
      let (o, m, h) = any_to is_refused layer e in
      let s = i.sound o m in
      let viable = viable_earlier A src dst hs hd rd s.whole place dst.size l (omega arith) (fits_viable A src dst hs hd rd s.whole (each s.whole s.word)) in
      let live = (tells_live A src dst hs hd rd s.whole s.word place l).1 viable in
      (live_some (reached A dst (padded s.whole place))).0 live (sym s.target ∙ live_not_refused o h)

  -- where something is left to meet each at the target's end, each word fits
  pub met : (layer : List Obligation) → Layer dst.size layer → list_any is_refused layer ≡ false → EachWordFits A src dst
  met layer i e w word =
      let (o, m, meets) = i.complete w word in
      let h = none_of is_refused layer e o m in
      let (s, n) = some_among o.target (λ none. (let z : not (is_live o.target) ≡ true = ap (λ (xs : List ℕ). not (is_live xs)) none in cc)) in
      let some : reached A dst (padded w dst.size) ≢ [] = λ none. Contains-none _ (subst (λ (z : List ℕ). Contains z s) none (meets.target s n)) in
      viable_fits A src dst hs hd rd w word ((tells_live A src dst hs hd rd w word dst.size (omega arith)).0 ((live_some (reached A dst (padded w dst.size))).1 some))

  -- the answer at the target's end
  pub answered : (layer : List Obligation) (place : ℕ) (some : Bool) → place ≡ dst.size → Layer place layer → some ≡ list_any is_refused layer → IsTrue (not some) ↔ EachWordFits A src dst
  answered layer place true e i h = (λ f. cc, λ each. absurd (refused place layer (omega arith) i (sym h) each))
  answered layer place false e i h = (λ t. met layer (subst (λ (n : ℕ). Layer n layer) e i) (sym h), λ each. refl)
