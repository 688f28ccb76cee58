-- Each place of the words has one state exactly where there are no more states than cells, and one for the end.
use Rattle.std.proofs.Common.{◌≡◌, ℕ, zero, suc, ◌+◌, ◌-◌, ◌<◌, ◌≤◌, inl, inr, ◌↔◌, Bool, true, List, refl, subst, arith}
use Rattle.std.proofs.lemmas.Bool.{cases_lt}
use Rattle.tm_base.specs.Cells.{OrOwn}
use Rattle.tm_base.specs.Transmutes.{holds}
use Rattle.tm_auto.specs.declared.edge.Edge.{Edge}
use Rattle.tm_auto.specs.Automata.{Automaton, IsInLayer, HasOneStateALayer, IsAutomaton}
use Rattle.tm_auto.specs.Paths.{IsPath}
use Rattle.tm_auto.proofs.AutomatonLemmas.{path_down, path_of, in_layer, layer_below, layered}
use Rattle.tm_auto.proofs.NextLemmas.{path_more}

-- a path of so many edges and more goes through a state so many edges from its beginning
path_parts : (es : List Edge) (i j k a s : ℕ) → k ≡ i + j → IsPath es k a s → (c : ℕ) × IsPath es i a c × IsPath es j c s
path_parts es zero j k a s same p = let rest : k ≡ j = omega arith in (a, refl, subst (λ (n : ℕ). IsPath es n a s) rest p)
path_parts es (suc i) j zero a s same p = absurd (omega arith)
path_parts es (suc i) j (suc k) a s same (e, m, f, p) = let (c, q, r) = path_parts es i j k e.to s (omega arith) p in (c, (e, m, f, q), r)

module _ (auto : Automaton) (h : IsAutomaton auto) where
  -- states go down along a path
  goes_down : (k s t : ℕ) → IsPath auto.edges k s t → k + t ≤ s
  goes_down zero s t p = omega arith
  goes_down (suc k) s t (e, m, f, p) =
      let down = (h.down e m).0 in
      let rest = goes_down k e.to t p in
      omega arith

  -- how far a state is from the end
  left_of : (k s : ℕ) → IsInLayer auto k s → (d : ℕ) × IsPath auto.edges d s 0 × (k + d ≡ auto.size)
  left_of k s i = let (d, p) = path_down auto h (suc s) s (omega arith) (layer_below auto h k s i) in (d, p, in_layer auto h k d s i p)

  all : ℕ → ℕ → Bool
  all x t = true

  layer_of : (s : ℕ) → s < auto.states → (k : ℕ) × IsInLayer auto k s
  layer_of s l = let w = (layered auto h).lies all s l in (_, record { start = w.start; among = w.among; path = path_of auto h (OrOwn (holds all)) w.before w.start s w.leads })

  -- ---- few states

  place_tells : auto.states ≤ auto.size + 1 → (k s : ℕ) → IsInLayer auto k s → k + s ≡ auto.size
  place_tells few k s i =
      let (d, p, whole) = left_of k s i in
      let low = goes_down d s 0 p in
      let high = goes_down k i.start s i.path in
      let below = h.below i.start i.among in
      omega arith

  few_one : auto.states ≤ auto.size + 1 → HasOneStateALayer auto
  few_one few k s t p q = let a = place_tells few k s p in let b = place_tells few k t q in omega arith

  -- ---- one state at each place

  module _ (one : HasOneStateALayer auto) where
    -- a state at a later place is no greater
    later : (i k s t : ℕ) → i ≤ k → IsInLayer auto i s → IsInLayer auto k t → t ≤ s
    later i k s t l p q =
        let (c, to, on) = path_parts auto.edges i (k - i) k q.start t (omega arith) q.path in
        let same : s ≡ c = one i s c p (record { start = q.start; among = q.among; path = to }) in
        let down = goes_down (k - i) c t on in
        omega arith

    -- no number is left out between two states that follow one another
    no_gap : (k s : ℕ) (e : Edge) → IsInLayer auto k s → IsInLayer auto (suc k) e.to → s ≤ suc e.to
    no_gap k s e p q = elim (cases_lt (suc e.to) s) [
      | inl gap ↦ (
          let below = layer_below auto h k s p in
          let (i, r) = layer_of (suc e.to) (omega arith) in
          elim (cases_lt k i) [
            | inl l ↦ (let z = later (suc k) i e.to (suc e.to) (omega arith) q r in absurd (omega arith))
            | inr l ↦ (let z = later i k (suc e.to) s (omega arith) r p in absurd (omega arith))
          ])
      | inr none ↦ omega arith
    ]

    -- a state is no greater than it is far from the end
    near : (d k s : ℕ) → IsInLayer auto k s → IsPath auto.edges d s 0 → s ≤ d
    near zero k s i p = omega arith
    near (suc d) k s i (e, m, f, p) =
        let next : IsInLayer auto (suc k) e.to = record { start = i.start; among = i.among; path = path_more auto.edges k i.start s e i.path m f } in
        let rest = near d (suc k) e.to next p in
        let gap = no_gap k s e i next in
        omega arith

    one_few : auto.states ≤ auto.size + 1
    one_few = elim (cases_lt 0 auto.states) [
      | inl some ↦ (
          let (i, p) = layer_of (auto.states - 1) (omega arith) in
          let first : IsInLayer auto 0 p.start = record { start = p.start; among = p.among; path = refl } in
          let (d, on, whole) = left_of 0 p.start first in
          let most = near d 0 p.start first on in
          let down = goes_down i p.start (auto.states - 1) p.path in
          omega arith)
      | inr none ↦ omega arith
    ]

  pub states_tell : (auto.states ≤ auto.size + 1) ↔ HasOneStateALayer auto
  states_tell = (few_one, λ one. one_few one)
