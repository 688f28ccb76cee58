-- What bytes are to a question's target: when they are one of its values, and that they are one thing alone.
use Rattle.std.proofs.Common.{◌≡◌, ◌∙◌, ◌↔◌, ℕ, Bool, true, false, inl, refl, sym, ap, subst, List, Some}
use Rattle.tm_base.specs.declared.answer.Side.TheVariants.{Target}
use Rattle.tm_base.specs.declared.answer.Why.{Why}
use Rattle.tm_base.specs.declared.ask.Ask.{Ask}
use Rattle.tm_base.specs.declared.ground.Ground.{Ground}
use Rattle.tm_base.specs.Answers.{NoSharedTexts}
use Rattle.tm_base.specs.Cells.{OrOwn, fit}
use Rattle.tm_base.specs.Expanded.{Expanded}
use Rattle.tm_base.specs.Faults.{fault_of}
use Rattle.tm_base.specs.Layout.{size_of}
use Rattle.tm_base.specs.Tables.{Tables, expanded_in}
use Rattle.tm_base.specs.Texts.{text_of}
use Rattle.tm_base.specs.Transmutes.{Fits as AreFitting, holds}
use Rattle.tm_base.specs.Viable.{HasWord}
use Rattle.tm_base.proofs.OrderLemmas.{text_less-total}
use Rattle.tm_base.proofs.ValidLemmas.{Valid-grows}
use Rattle.tm_laws.proofs.refusals.RefusedLemmas.{refused-once}
use Rattle.tm_layout.specs.Named.{IsFirstRefused}
use Rattle.tm_run.specs.Matches.{AreValueOf, IsMatch, is_valid}
use Rattle.tm_run.specs.declared.matched.Match.{Match}
use Rattle.tm_run.specs.declared.matched.Match.TheVariants.{Fits, Refused}
use Rattle.tm_validate.specs.Against.{AreTo, bytes_of}
use Rattle.tm_validate.specs.declared.matching.Fits.{Fits as Fitting}
use Rattle.tm_validate.specs.declared.matching.Fits.TheVariants.{Valid, NoWord, RefusedAt}

-- no reference is taken as another
none : ℕ → ℕ → Bool
none x t = false

module _ (A : ℕ → ℕ → Type 0) (keep : Bool) (t : Expanded) (bytes : List ℕ) where
  -- bytes that are a value show that there is one
  fit-word : AreFitting A keep t (bytes_of bytes) → HasWord A keep t
  fit-word fits = (fit (bytes_of bytes) (size_of t), Valid-grows A (OrOwn A) keep keep (λ x u a. inl a) (λ k. k) t _ fits)

  -- bytes are one thing to a type
  to-once : (one other : Fitting) → AreTo A keep t bytes one → AreTo A keep t bytes other → one ≡ other
  to-once Valid Valid h k = refl
  to-once Valid NoWord h k = absurd (k (fit-word h))
  to-once Valid (RefusedAt o) h k = absurd (k.unfit h)
  to-once NoWord Valid h k = absurd (h (fit-word k))
  to-once NoWord NoWord h k = refl
  to-once NoWord (RefusedAt o) h k = absurd (h k.has)
  to-once (RefusedAt o) Valid h k = absurd (h.unfit k)
  to-once (RefusedAt o) NoWord h k = absurd (k h.has)
  to-once (RefusedAt o) (RefusedAt p) h k = ap (λ (n : ℕ). RefusedAt n) (refused-once A keep t (bytes_of bytes) o p h.at k.at)

module _ (tables : Tables) (bytes : List ℕ) (ask : Ask) where
  abbrev target : Expanded
  target = expanded_in tables ask.dst

  -- the bytes are a value of the target exactly where that is told
  pub match-means : (match : Match) → IsMatch tables bytes ask match → is_valid match ≡ true ↔ AreValueOf bytes tables ask
  match-means (Fits Valid) (judged, to) = (λ e. record { judged = judged; fit = to }, λ h. refl)
  match-means (Fits NoWord) (judged, to) = (λ e. cc, λ h. absurd (to none (fit-word (holds none) ask.assume.safety target bytes (h.fit none))))
  match-means (Fits (RefusedAt o)) (judged, to) = (λ e. cc, λ h. absurd ((to none).unfit (h.fit none)))
  match-means (Refused why g) first = (λ e. cc, λ h. absurd (let none = h.judged g first.reached in let some = first.at_fault in cc))

  -- of two types at fault that are first, none is the other's
  first-once : NoSharedTexts tables ask → (why other : Why) (g h : Ground) → IsFirstRefused tables ask.dst why g → IsFirstRefused tables ask.dst other h → Refused why g ≡ Refused other h
  first-once apart why other g h a b =
      let texts : text_of tables g ≡ text_of tables h =
      text_less-total (text_of tables g) (text_of tables h) (b.least g why a.reached a.at_fault) (a.least h other b.reached b.at_fault) in
      let types : g ≡ h = apart Target g h why other a.reached b.reached a.at_fault b.at_fault texts in
      let there : fault_of (expanded_in tables h) ≡ Some why = subst (λ (x : Ground). fault_of (expanded_in tables x) ≡ Some why) types a.at_fault in
      let causes : why ≡ other = cc (there, b.at_fault) in
      ap (λ (x : Why). Refused x g) causes ∙ ap (λ (x : Ground). Refused other x) types

  pub match-same : NoSharedTexts tables ask → (one other : Match) → IsMatch tables bytes ask one → IsMatch tables bytes ask other → one ≡ other
  match-same apart (Fits one) (Fits other) (judged, to) (judged', to') = ap (λ (f : Fitting). Fits f) (to-once (holds none) ask.assume.safety target bytes one other (to none) (to' none))
  match-same apart (Fits one) (Refused why g) (judged, to) first = absurd (let none = judged g first.reached in let some = first.at_fault in cc)
  match-same apart (Refused why g) (Fits other) first (judged, to) = absurd (let none = judged g first.reached in let some = first.at_fault in cc)
  match-same apart (Refused why g) (Refused other h) a b = first-once apart why other g h a b
