-- What a question needs: when there are assumptions under which it is answered yes, and that it needs one thing alone.
use Rattle.std.proofs.Common.{◌≡◌, ◌<◌, ◌≤◌, ◌⊎◌, inl, inr, ◌↔◌, ℕ, zero, suc, refl, ap, true, IsTrue, List, [], ◌∷◌, length, arith}
use Rattle.std.proofs.lemmas.Bool.{cases_lt}
use Rattle.tm_base.specs.declared.answer.Answer.{Answer}
use Rattle.tm_base.specs.declared.answer.Answer.TheVariants as answer
use Rattle.tm_base.specs.declared.ask.Ask.{Ask}
use Rattle.tm_base.specs.declared.assume.Assume.{Assume}
use Rattle.tm_base.specs.declared.ground.Ground.{Ground}
use Rattle.tm_base.specs.Answers.{AreJudged, NoSharedTexts}
use Rattle.tm_base.specs.Assumptions.{Includes}
use Rattle.tm_base.specs.Tables.{Tables}
use Rattle.tm_base.proofs.AnswerLemmas.{IsAnswer-unique}
use Rattle.tm_base.proofs.JudgedLemmas.{Contains-none}
use Rattle.tm_laws.specs.AnswerKinds.{is_refusal}
use Rattle.tm_needs.specs.Least.{AreLeast, HoldsUnder, IsLeast}
use Rattle.tm_needs.specs.Numbers.{number_of}
use Rattle.tm_needs.proofs.LeastLemmas.{least-unique}
use Rattle.tm_needs.proofs.NumberLemmas.{number-small, subset-whole}
use Rattle.tm_report.specs.AnswerLines.{HasWholeWord}
use Rattle.tm_ground.proofs.finding.ContainsLemmas.{contains-first}
use Rattle.tm_run.specs.Needs.{HasRefusal, HoldsUnderSome, IsNeed, is_met}
use Rattle.tm_run.specs.declared.reported.need.Need.{Need}
use Rattle.tm_run.specs.declared.reported.need.Need.TheVariants.{Least, Refused}
use Rattle.tm_run.proofs.answers.AnswerLemmas.{refusal-unjudged}

-- where no set is least, the answer is yes under none
module _ (tables : Tables) (src dst : Ground) (none : (a : Assume) → IsLeast tables src dst a → ⊥) where
  none-below : (n : ℕ) (a : Assume) → number_of a < n → HoldsUnder tables src dst a → ⊥
  none-below zero a less h = omega (arith, less)
  none-below (suc n) a less h =
      none a (record { holds = h; minimal = λ b inc k. by (λ c l. none-below n c (omega (arith, less, l))) b inc k (cases_lt (number_of b) (number_of a)) })
    where
      by : ((c : Assume) → number_of c < number_of a → HoldsUnder tables src dst c → ⊥) → (b : Assume) → Includes a b → HoldsUnder tables src dst b
          → (number_of b < number_of a) ⊎ (number_of a ≤ number_of b) → b ≡ a
      by below b inc k (inl l) = absurd (below b l k)
      by below b inc k (inr l) = subset-whole a b inc l

  none-holds : (a : Assume) → HoldsUnder tables src dst a → ⊥
  none-holds a h = none-below 16 a (number-small a) h

module _ (tables : Tables) (ask : Ask) where
  -- the first of some least sets
  first-least : (a : Assume) (sets : List Assume) → AreLeast tables ask.src ask.dst (a ∷ sets) → IsLeast tables ask.src ask.dst a
  first-least a sets h = (h.exact a).0 (contains-first a sets)

  -- least sets that there are show both types to be judged
  pub some-judged : (sets : List Assume) → 0 < length sets → AreLeast tables ask.src ask.dst sets → AreJudged tables ask
  some-judged [] some h = absurd (omega (arith, some))
  some-judged (a ∷ sets) some h = let judged = (first-least a sets h).holds.judged in record { source_judged = judged.source_judged; target_judged = judged.target_judged }

  pub need-means : (need : Need) → IsNeed tables ask need → is_met need ≡ true ↔ HoldsUnderSome tables ask
  need-means (Least []) (judged, least) = (λ e. cc, λ (a, h). absurd (none-holds tables ask.src ask.dst (λ b l. Contains-none b ((least.exact b).1 l)) a h))
  need-means (Least (a ∷ sets)) (judged, least) = (λ e. (a, (first-least a sets least).holds), λ h. refl)
  need-means (Refused answer) (refusal, is) = (λ e. cc, λ (a, h). absurd (refusal-unjudged tables ask answer refusal is.is_true (record { source_judged = h.judged.source_judged; target_judged = h.judged.target_judged })))

  pub need-same : NoSharedTexts tables ask → (one other : Need) → IsNeed tables ask one → IsNeed tables ask other → one ≡ other
  need-same apart (Least sets) (Least others) (j, h) (k, i) = ap Least (least-unique tables ask.src ask.dst sets others h i)
  need-same apart (Least sets) (Refused answer) (j, h) (r, is) = absurd (refusal-unjudged tables ask answer r is.is_true j)
  need-same apart (Refused answer) (Least sets) (r, is) (j, h) = absurd (refusal-unjudged tables ask answer r is.is_true j)
  need-same apart (Refused answer) (Refused other) (r, is) (s, too) = ap Refused (IsAnswer-unique tables ask apart answer other is too)

  pub need-refusal : (need : Need) → IsNeed tables ask need → HasRefusal need
  need-refusal (Least sets) h = tt
  need-refusal (Refused answer) (r, is) = r

-- a refusal shows no word
pub refusal-whole : (size : ℕ) (answer : Answer) → IsTrue (is_refusal answer) → HasWholeWord size answer
refusal-whole size answer.Yes h = tt
refusal-whole size (answer.YesBecause w) h = cc
refusal-whole size (answer.No rule) h = tt
refusal-whole size (answer.NoAt rule o w fault) h = cc
refusal-whole size (answer.Refused side why g) h = tt
