-- Where both automata have one state at each place at most, at most one pair of a layer is expanded.
use Rattle.std.proofs.Common.{◌≡◌, ◌≢◌, ℕ, ◌<◌, ◌≤◌, inl, inr, Bool, false, List, [], ◌∷◌, ◌++◌, length, Some, slice_get, sym, ◌∙◌, subst, arith, length-append, Contains}
use Rattle.std.specs.Prelude.{◌==◌}
use Rattle.std.specs.List.Sorted.{IsStrictlyIncreasing}
use Rattle.std.proofs.lemmas.Bool.{cases_lt}
use Rattle.tm_base.specs.Cells.{Word}
use Rattle.tm_base.specs.Transmutes.{holds, is_itself}
use Rattle.tm_auto.specs.Automata.{Automaton, AutoWord, IsAutomaton, ReadsWords, AreInLayer, HasOneStateALayer, reached}
use Rattle.tm_auto.specs.Sets.{next, symbol_of, reached_from}
use Rattle.tm_auto.proofs.ContainsLemmas.{some_among, none_or_some}
use Rattle.tm_auto.proofs.SetLemmas.{rises_same, increasing_rises}
use Rattle.tm_auto.proofs.StepLemmas.{next-IsStrictlyIncreasing}
use Rattle.tm_walk.specs.Layers.{is_live, Entry, HaveSameSets, NoneStops, weights}
use Rattle.tm_walk.specs.Sought.{IsSourceWord, HaltsWhereDead}
use Rattle.tm_walk.proofs.ChainLemmas.{IsChained, means}
use Rattle.tm_walk.proofs.NextLayerLemmas.{weights_one}
use Rattle.tm_walk.proofs.OfferLemmas.{apart_at}
use Rattle.tm_walk.proofs.PaddedLemmas.{padded, padded_within, length-padded}

rises : (A : ℕ → ℕ → Bool) (auto : Automaton) (from : List ℕ) (w : Word) → IsStrictlyIncreasing from → IsStrictlyIncreasing (reached_from A auto.edges from w)
rises A auto from [] h = h
rises A auto from (c ∷ w) h = rises A auto (next A auto.edges from (symbol_of c)) w (next-IsStrictlyIncreasing A auto.edges from (symbol_of c))

-- two lists of one length lead to one set, where they lead to some states
one_set : (A : ℕ → ℕ → Bool) (auto : Automaton) → IsAutomaton auto → ReadsWords auto → HasOneStateALayer auto → (v w : Word) → length v ≡ length w → reached A auto v ≢ [] → reached A auto w ≢ [] → reached A auto v ≡ reached A auto w
one_set A auto h r one v w l a b =
    let (s, sm) = some_among (reached A auto v) a in
    let (t, tm) = some_among (reached A auto w) b in
    let at_v = r.layer A v in
    let at_w : AreInLayer auto (length v) (reached A auto w) = subst (λ (n : ℕ). AreInLayer auto n (reached A auto w)) (sym l) (r.layer A w) in
    rises_same (reached A auto v) (reached A auto w) (increasing_rises _ (rises A auto auto.starts v h.rising)) (increasing_rises _ (rises A auto auto.starts w h.rising))
    (λ x m. subst (λ (z : ℕ). Contains (reached A auto w) z) (one (length v) t x (at_w t tm) (at_v x m)) tm)
    (λ x m. subst (λ (z : ℕ). Contains (reached A auto v) z) (one (length v) s x (at_v s sm) (at_w x m)) sm)

module _ (A : ℕ → ℕ → Bool) (src dst : Automaton) (hs : IsAutomaton src) (rs : ReadsWords src) (hd : IsAutomaton dst) (rd : ReadsWords dst) (stop : Bool → Bool → Bool) (skip : Bool → Bool) where
  -- the source's set behind a source word is empty exactly behind its end
  source_live : (w : Word) → IsSourceWord src w → (p : ℕ) → p ≤ src.size → reached is_itself src (padded w p) ≢ []
  source_live w word p l =
      let size = hs.sized is_itself w word in
      let (t, split) = padded_within w p (omega arith) in
      (rs.source (padded w p)).1 (t, subst (λ (z : Word). AutoWord (holds is_itself) src z) split word)

  source_dead : (w : Word) (p : ℕ) → src.size < p → reached is_itself src (padded w p) ≡ []
  source_dead w p l = elim (none_or_some (reached is_itself src (padded w p))) [
    | inl e ↦ e
    | inr n ↦ (
        let (v, word) = (rs.source (padded w p)).0 n in
        let size = hs.sized is_itself (padded w p ++ v) word in
        let a = length-append (padded w p) v in
        let b = length-padded w p in
        absurd (omega arith))
  ]

  one_source : HasOneStateALayer src → (v w : Word) → IsSourceWord src v → IsSourceWord src w → (p : ℕ) → reached is_itself src (padded v p) ≡ reached is_itself src (padded w p)
  one_source one v w x y p = elim (cases_lt src.size p) [
    | inl lt ↦ source_dead v p lt ∙ sym (source_dead w p lt)
    | inr ge ↦ one_set is_itself src hs rs one (padded v p) (padded w p) (length-padded v p ∙ sym (length-padded w p)) (source_live v x p ge) (source_live w y p ge)
  ]

  -- it goes on behind live pairs alone
  goes_live : HaltsWhereDead stop skip → (at_end : Bool) (xs : List ℕ) → stop (is_live xs) at_end ≡ false → skip (is_live xs) ≡ false → xs ≢ []
  goes_live halts at_end xs a b e = elim (halts at_end) [
    | inl h ↦ (let z = subst (λ (y : List ℕ). stop (is_live y) at_end ≡ false) e a in cc)
    | inr h ↦ (let z = subst (λ (y : List ℕ). skip (is_live y) ≡ false) e b in cc)
  ]

  pub layer_apart : (older : List (List Entry)) (layer : List Entry) → IsChained A src dst stop skip older layer → (j k : ℕ) (e f : Entry) → j < k → slice_get layer j ≡ Some e → slice_get layer k ≡ Some f → ¬ HaveSameSets e f
  layer_apart [] layer c j k e f l a b = let x = (c.each j e a).0 in let y = (c.each k f b).0 in absurd (omega arith)
  layer_apart (x ∷ older) layer (next, none, c) j k e f l a b = apart_at layer next.apart j k e f l a b

  pub narrow : (older : List (List Entry)) (layer : List Entry) → IsChained A src dst stop skip older layer → NoneStops stop (length older == dst.size) layer → HasOneStateALayer src → HasOneStateALayer dst → HaltsWhereDead stop skip → weights skip layer ≤ 1
  narrow older layer c none one two halts = weights_one skip layer (λ j k e f lt a b p q.
      let x = means A src dst hs rs stop skip older layer c j e a in
      let y = means A src dst hs rs stop skip older layer c k f b in
      let n = length older in
      let srcs = x.source ∙ one_source one x.whole y.whole x.word y.word n ∙ sym y.source in
      let live_x = subst (λ (z : List ℕ). z ≢ []) x.target (goes_live halts (n == dst.size) e.dst (none j e a) p) in
      let live_y = subst (λ (z : List ℕ). z ≢ []) y.target (goes_live halts (n == dst.size) f.dst (none k f b) q) in
      let dsts = x.target ∙ one_set A dst hd rd two (padded x.whole n) (padded y.whole n) (length-padded x.whole n ∙ sym (length-padded y.whole n)) live_x live_y ∙ sym y.target in
      layer_apart older layer c j k e f lt a b (srcs, dsts))
