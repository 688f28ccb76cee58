-- An obligation of a layer is some source word's, and so is what follows from it.
use Rattle.std.proofs.Common.{◌≡◌, ◌≢◌, ℕ, suc, ◌<◌, ◌≤◌, inl, inr, Bool, List, [], ◌∷◌, ◌++◌, length, sym, ap, ◌∙◌, subst, arith, length-append, Contains}
use Rattle.tm_base.specs.declared.cell.Cell.{Cell}
use Rattle.tm_base.specs.Cells.{Word}
use Rattle.tm_base.specs.Transmutes.{is_itself}
use Rattle.tm_base.proofs.JudgedLemmas.{Contains-none}
use Rattle.tm_auto.specs.Automata.{Automaton, AreStates, IsAutomaton, ReadsWords, reached}
use Rattle.tm_auto.specs.Sets.{next, symbol_of}
use Rattle.tm_auto.proofs.NextLemmas.{next_states}
use Rattle.tm_auto.proofs.StepLemmas.{passes_takes, to_next}
use Rattle.tm_walk.specs.declared.obligation.Obligation.{Obligation}
use Rattle.tm_walk.specs.Obligations.{IsFirst, IsBetween, Follows}
use Rattle.tm_walk.specs.Sought.{IsSourceWord}
use Rattle.tm_walk.proofs.ChainLemmas.{reached_more}
use Rattle.tm_walk.proofs.PaddedLemmas.{padded, cell_at, cell_past, padded_more, padded_front, length-padded}

module _ (A : ℕ → ℕ → Bool) (src dst : Automaton) where
  -- Some source word leads there: up to its end its cells before the place reach the source's state, and fitted the target's.
  pub record IsSound (place : ℕ) (o : Obligation) : Type 0 where
    pub between : IsBetween src dst o
    pub whole : Word
    pub word : IsSourceWord src whole
    pub state : place ≤ src.size → Contains (reached is_itself src (padded whole place)) o.state
    pub target : o.target ≡ reached A dst (padded whole place)

module _ (A : ℕ → ℕ → Bool) (src dst : Automaton) (hs : IsAutomaton src) (rs : ReadsWords src) (hd : IsAutomaton dst) (rd : ReadsWords dst) where
  abbrev Sound : ℕ → Obligation → Type 0
  Sound place o = IsSound A src dst place o

  -- ---- before the first cell

  pub first_sound : (o : Obligation) → IsFirst src dst o → Sound 0 o
  first_sound o f =
      let start : src.starts ≢ [] = λ e. Contains-none _ (subst (λ (z : List ℕ). Contains z o.state) e f.state) in
      let (w, word) = (rs.source []).0 (λ e. start (sym (rs.begins is_itself) ∙ e)) in
      record {
        between = record { state = hs.below o.state f.state; target = subst (AreStates dst) (sym f.target) hd.below };
        whole = w;
        word = word;
        state = λ l. f.state;
        target = f.target;
      }

  -- ---- one cell more

  longer : (w : Word) (place : ℕ) (c : Cell) → length (padded w place ++ c ∷ []) ≡ suc place
  longer w place c = length-append (padded w place) (c ∷ []) ∙ (let z = length-padded w place in omega arith)

  -- where the same word, padded, has the cell next
  next_target : (place : ℕ) (o p : Obligation) (c : Cell) (w v : Word) → p.target ≡ next A dst.edges o.target (symbol_of c) → o.target ≡ reached A dst (padded w place)
      → padded v (suc place) ≡ padded w place ++ c ∷ [] → p.target ≡ reached A dst (padded v (suc place))
  next_target place o p c w v a b e = a ∙ ap (λ (z : List ℕ). next A dst.edges z (symbol_of c)) b ∙ sym (reached_more A dst (padded w place) c) ∙ ap (reached A dst) (sym e)

  target_states : (o p : Obligation) (c : Cell) → p.target ≡ next A dst.edges o.target (symbol_of c) → AreStates dst p.target
  target_states o p c a = subst (AreStates dst) (sym a) (next_states A (symbol_of c) dst hd o.target)

  pub next_sound : (place : ℕ) (o p : Obligation) → Sound place o → Follows A src dst place o p → Sound (suc place) p
  next_sound place o p s (c, inl (l, (e, ea, ef, t, to)), q) =
      let before = reached is_itself src (padded s.whole place) in
      let from : Contains before e.from = subst (λ (z : ℕ). Contains before z) (sym ef) (s.state (omega arith)) in
      let u = padded s.whole place ++ c ∷ [] in
      let m : Contains (reached is_itself src u) p.state = subst (λ (z : List ℕ). Contains z p.state) (sym (reached_more is_itself src (padded s.whole place) c))
      (subst (λ (z : ℕ). Contains (next is_itself src.edges before (symbol_of c)) z) to (to_next is_itself src.edges before (symbol_of c) e ea from ((passes_takes is_itself e.label c).1 t))) in
      let (v, word) = (rs.source u).0 (λ none. Contains-none _ (subst (λ (z : List ℕ). Contains z p.state) none m)) in
      let front : padded (u ++ v) (suc place) ≡ u = subst (λ (n : ℕ). padded (u ++ v) n ≡ u) (longer s.whole place c) (padded_front u v) in
      let (down, up) = hs.down e ea in
      record {
        between = record { state = omega arith; target = target_states o p c q };
        whole = u ++ v;
        word = word;
        state = λ k. subst (λ (z : Word). Contains (reached is_itself src z) p.state) (sym front) m;
        target = next_target place o p c s.whole (u ++ v) q s.target front;
      }
  next_sound place o p s (c, inr (l, u, same), q) =
      let size = hs.sized is_itself s.whole s.word in
      let past : cell_at s.whole place ≡ c = cell_past s.whole place (omega arith) ∙ sym u in
      let front : padded s.whole (suc place) ≡ padded s.whole place ++ c ∷ [] = padded_more s.whole place ∙ ap (λ (z : Cell). padded s.whole place ++ z ∷ []) past in
      record {
        between = record { state = subst (λ (n : ℕ). n < src.states) (sym same) s.between.state; target = target_states o p c q };
        whole = s.whole;
        word = s.word;
        state = λ k. absurd (omega arith);
        target = next_target place o p c s.whole s.whole q s.target front;
      }
