-- A target refuses a word at one offset at most, and at one where the word doesn't fit.
use Rattle.std.proofs.Common.{◌≡◌, ℕ, ◌+◌, ◌^◌, ◌<◌, ◌≤◌, ◌⊎◌, ◌↔◌, inl, inr, sym, subst, Bool, ◌++◌, take, drop, arith, append_assoc}
use Rattle.std.specs.List.{All}
use Rattle.std.proofs.lemmas.Bool.{cases_lt}
use Rattle.std.proofs.lemmas.List.{take-append-drop, take-take}
use Rattle.tm_base.specs.Cells.{Word, fit, OrOwn}
use Rattle.tm_base.specs.Expanded.{Expanded}
use Rattle.tm_base.specs.Layout.{size_of}
use Rattle.tm_base.specs.Transmutes.{Fits}
use Rattle.tm_base.specs.Valid.{Valid}
use Rattle.tm_base.specs.Viable.{HasWord, Viable, RefusesAt}
use Rattle.tm_base.proofs.ValidLemmas.{Valid-grows}
use Rattle.tm_laws.specs.WordLaws.{IsClosed, IsOfSources}
use Rattle.tm_laws.proofs.refusals.StopLemmas.{refused-somewhere}
use Rattle.tm_laws.proofs.known.ViableLemmas.{Viable-known}

either : {P : Type 0} → Dec P → P ⊎ (¬ P)
either (yes p) = inl p
either (no f) = inr f

module _ (A : ℕ → ℕ → Type 0) (keep : Bool) (t : Expanded) where
  -- what goes along with a word goes along with what begins it
  viable-shorter : (u v : Word) → Viable A keep t (u ++ v) → Viable A keep t u
  viable-shorter u v (rest, valid) = (v ++ rest, subst (Valid (OrOwn A) keep t) (append_assoc u v rest) valid)

  viable-before : (f : Word) (o p : ℕ) → o ≤ p → Viable A keep t (take p f) → Viable A keep t (take o f)
  viable-before f o p below viable =
      let front : take o (take p f) ≡ take o f = take-take o p f below in
      subst (Viable A keep t) front
      (viable-shorter (take o (take p f)) (drop o (take p f)) (subst (Viable A keep t) (sym (take-append-drop o (take p f))) viable))

  not-before : (w : Word) (o p : ℕ) → RefusesAt A keep t w o → RefusesAt A keep t w p → ¬ (o < p)
  not-before w o p first second less = first.stops (viable-before (fit w (size_of t)) (o + 1) p (omega arith) second.goes_to)

  -- a word is refused at one offset at most
  pub refused-once : (w : Word) (o p : ℕ) → RefusesAt A keep t w o → RefusesAt A keep t w p → o ≡ p
  refused-once w o p first second =
      let above : ¬ (o < p) = not-before w o p first second in
      let below : ¬ (p < o) = not-before w p o second first in
      by above below (cases_lt o p) (cases_lt p o)
    where
      by : ¬ (o < p) → ¬ (p < o) → (o < p) ⊎ (p ≤ o) → (p < o) ⊎ (o ≤ p) → o ≡ p
      by above below (inl less) other = absurd (above less)
      by above below (inr most) (inl less) = absurd (below less)
      by above below (inr most) (inr least) = omega arith

  -- a word that is refused doesn't fit
  refused-unfit : (w : Word) (o : ℕ) → RefusesAt A keep t w o → ¬ Fits A keep t w
  refused-unfit w o refuses fits =
      let f = fit w (size_of t) in
      let open_valid = Valid-grows A (OrOwn A) keep keep (λ x u a. inl a) (λ k. k) t f fits in
      refuses.stops (drop (o + 1) f, subst (Valid (OrOwn A) keep t) (sym (take-append-drop (o + 1) f)) open_valid)

  module _ (known : (x u : ℕ) → Dec (A x u)) (sources : IsOfSources A) where
    -- a word of a source is refused exactly where it doesn't fit
    pub refused-where_unfit : (w : Word) → All IsClosed w → HasWord A keep t → (¬ Fits A keep t w) ↔ ((o : ℕ) × (o < size_of t) × RefusesAt A keep t w o)
    refused-where_unfit w closed has_word = (
      λ unfit. refused-somewhere A keep t w closed has_word unfit (λ o. either (Viable-known A known (λ u. 2 ^ 32) sources keep t (take o (fit w (size_of t))))),
      λ (o, inside, refuses). refused-unfit w o refuses,
    )
