-- How many cells lead on to some state.
use Rattle.std.proofs.Common.{◌≡◌, ◌≢◌, ℕ, zero, suc, ◌+◌, ◌<◌, ◌≤◌, inl, inr, Bool, true, false, List, [], ◌∷◌, length, take, drop, get_or, refl, sym, ap, ◌∙◌, arith}
use Rattle.std.proofs.lemmas.List.{drop_more, drop_all}
use Rattle.tm_base.specs.declared.cell.Cell.{Cell}
use Rattle.tm_base.specs.Cells.{Word}
use Rattle.tm_base.proofs.JudgedLemmas.{Contains-none}
use Rattle.tm_auto.specs.declared.edge.Edge.{Edge}
use Rattle.tm_auto.specs.declared.edge.Symbol.{Symbol}
use Rattle.tm_auto.specs.Automata.{Automaton, IsStep}
use Rattle.tm_auto.specs.Sets.{next, symbol_of, reached_from}
use Rattle.tm_auto.proofs.ContainsLemmas.{some_among, none_or_some}
use Rattle.tm_auto.proofs.SetLemmas.{bool_cases}
use Rattle.tm_auto.proofs.StepLemmas.{next_to}
use Rattle.tm_walk.specs.Layers.{is_live}
use Rattle.tm_walk.specs.Words.{live_length}
use Rattle.tm_walk.proofs.ExpandLemmas.{step_is}

next_nothing : (A : ℕ → ℕ → Bool) (es : List Edge) (x : Symbol) → next A es [] x ≡ []
next_nothing A es x = elim (none_or_some (next A es [] x)) [
  | inl e ↦ e
  | inr n ↦ (let (s, m) = some_among _ n in let (e, ea, ef, ep, eq) = next_to A es [] x s m in absurd (Contains-none _ ef))
]

module _ (A : ℕ → ℕ → Bool) (auto : Automaton) where
  -- no states lead nowhere
  pub reached_nothing : (w : Word) → reached_from A auto.edges [] w ≡ []
  reached_nothing [] = refl
  reached_nothing (c ∷ w) = ap (λ (z : List ℕ). reached_from A auto.edges z w) (next_nothing A auto.edges (symbol_of c)) ∙ reached_nothing w

  dead_end : (from : List ℕ) (w : Word) → is_live from ≡ false → is_live (reached_from A auto.edges from w) ≡ false
  dead_end [] w h = ap is_live (reached_nothing w)
  dead_end (s ∷ ss) w h = cc

  pub live_least : (from : List ℕ) (w : Word) → live_length A auto from w ≤ length w
  live_least from [] = omega arith
  live_least from (c ∷ w) = elim (bool_cases (is_live (next A auto.edges from (symbol_of c)))) [
    | inl a ↦ rw a (let r = live_least (next A auto.edges from (symbol_of c)) w in omega arith)
    | inr a ↦ rw a (omega arith)
  ]

  -- so many lead to some state
  pub live_there : (from : List ℕ) (w : Word) → live_length A auto from w ≢ 0 → is_live (reached_from A auto.edges from (take (live_length A auto from w) w)) ≡ true
  live_there from [] n = absurd (n refl)
  live_there from (c ∷ w) n = elim (bool_cases (is_live (next A auto.edges from (symbol_of c)))) [
    | inr a ↦ absurd (n (rw a refl))
    | inl a ↦ rw a (by (live_length A auto (next A auto.edges from (symbol_of c)) w) refl (live_there (next A auto.edges from (symbol_of c)) w) a)
  ]
    where
      by : (k : ℕ) → live_length A auto (next A auto.edges from (symbol_of c)) w ≡ k
          → (live_length A auto (next A auto.edges from (symbol_of c)) w ≢ 0 → is_live (reached_from A auto.edges (next A auto.edges from (symbol_of c)) (take (live_length A auto (next A auto.edges from (symbol_of c)) w) w)) ≡ true)
          → is_live (next A auto.edges from (symbol_of c)) ≡ true
          → is_live (reached_from A auto.edges (next A auto.edges from (symbol_of c)) (take (live_length A auto (next A auto.edges from (symbol_of c)) w) w)) ≡ true
      by zero e f a = rw e a
      by (suc k) e f a = f (λ q. omega arith)

  -- and no more do
  pub live_most : (from : List ℕ) (w : Word) (p : ℕ) → p ≤ length w → is_live (reached_from A auto.edges from (take p w)) ≡ true → p ≤ live_length A auto from w
  live_most from w zero l h = omega arith
  live_most from [] (suc p) l h = absurd (omega arith)
  live_most from (c ∷ w) (suc p) l h = elim (bool_cases (is_live (next A auto.edges from (symbol_of c)))) [
    | inl a ↦ rw a (let r = live_most (next A auto.edges from (symbol_of c)) w p (omega arith) h in omega arith)
    | inr a ↦ (let z = dead_end (next A auto.edges from (symbol_of c)) (take p w) a in cc)
  ]

  -- one turn of a loop along the cells
  module _ (w : Word) (i : ℕ) (d : Cell) (l : i < length w) (from set : List ℕ) (x : Symbol) (symbol : x ≡ symbol_of (get_or w i d)) (step : IsStep A auto from x set) where
    turned : set ≡ next A auto.edges from (symbol_of (get_or w i d))
    turned = step_is A auto from x set step ∙ ap (next A auto.edges from) symbol

    pub live_turn : is_live set ≡ true → live_length A auto from (drop i w) ≡ suc (live_length A auto set (drop (i + 1) w))
    live_turn h =
        let z : is_live (next A auto.edges from (symbol_of (get_or w i d))) ≡ true = ap is_live (sym turned) ∙ h in
        ap (live_length A auto from) (drop_more w i d l) ∙ rw z (ap (λ (s : List ℕ). suc (live_length A auto s (drop (i + 1) w))) (sym turned))

    pub live_stop : is_live set ≡ false → live_length A auto from (drop i w) ≡ 0
    live_stop h =
        let z : is_live (next A auto.edges from (symbol_of (get_or w i d))) ≡ false = ap is_live (sym turned) ∙ h in
        ap (live_length A auto from) (drop_more w i d l) ∙ rw z refl

  pub live_end : (w : Word) (i : ℕ) (from : List ℕ) → length w ≤ i → live_length A auto from (drop i w) ≡ 0
  live_end w i from l = ap (live_length A auto from) (drop_all i w l)
