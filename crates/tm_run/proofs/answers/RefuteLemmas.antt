-- What is written of a refutation: that it is the only text, and what its status says.
use Rattle.std.proofs.Common.{◌≡◌, ◌∙◌, ◌↔◌, ◌<◌, ◌≤◌, ℕ, zero, suc, Bool, true, false, refl, sym, ap, subst, inl, inr, Option, Some, None, List, [], ◌∷◌, ◌++◌, Contains, slice_get, option_to_list, arith}
use Rattle.std.specs.List.{All, Any}
use Rattle.std.proofs.lemmas.Option.{get_or_from_slice_get, slice_get_within}
use Rattle.tm_base.specs.declared.answer.Answer.{Answer}
use Rattle.tm_base.specs.declared.ask.Ask.{Ask}
use Rattle.tm_base.specs.declared.world.World.{World}
use Rattle.tm_base.specs.Answers.{IsAnswer, NoSharedTexts}
use Rattle.tm_base.specs.Asked.{HoldsOf}
use Rattle.tm_base.specs.Tables.{Tables}
use Rattle.tm_base.specs.Worlds.{IsTypeOver, tables_of}
use Rattle.tm_base.proofs.AnswerLemmas.{IsAnswer-unique}
use Rattle.tm_laws.specs.AnswerKinds.{is_yes}
use Rattle.tm_base.specs.Profiles.{pointer_size}
use Rattle.tm_refute.specs.Chosen.{IsRefutationOf}
use Rattle.tm_refute.specs.ChosenLaws.{AreGood}
use Rattle.tm_refute.specs.Refutes.{Refutes}
use Rattle.tm_refute.specs.TextForms.{cells_of, most_cells_together}
use Rattle.tm_refute.specs.Written.{IsWritable, refutation_text}
use Rattle.tm_refute.specs.declared.stop.RefuteErr.{RefuteErr}
use Rattle.tm_refute.specs.declared.stop.RefuteErr.TheVariants.{TooLong, Memory as RefuteMemory}
use Rattle.tm_refute.specs.declared.refutation.Refutation.{Refutation}
use Rattle.tm_refute.proofs.chosen.AloneLemmas.{refutation-one}
use Rattle.tm_refute.proofs.chosen.HoldsLemmas.{chosen-refutes, is-refutable}
use Rattle.tm_refute.proofs.checking.LawLemmas.{refuted}
use Rattle.tm_report.specs.AnswerLines.{answer_line}
use Rattle.tm_run.specs.Asking.{question_at}
use Rattle.tm_run.specs.Examined.{IsRefutationStop, stop_of_refuting}
use Rattle.tm_run.specs.Refutations.{IsAnsweredAlone, IsPast, IsRefuteReport, IsShown, IsVerifyReport, verdict_line}
use Rattle.tm_run.specs.Report.{status_when}
use Rattle.tm_run.specs.declared.status.Status.{Status}
use Rattle.tm_run.specs.declared.status.Status.TheVariants.{AllYes, Mixed}
use Rattle.tm_run.proofs.answers.AnswerLemmas.{answer-means-holding}
use Rattle.tm_run.proofs.answers.OverLemmas.{asked-over}
use Rattle.tm_run.proofs.answers.VerdictLemmas.{HasVerdict, verdict}

-- the question of a number is one of those that are asked
pub question-over : (world : World) (number : ℕ) (ask : Ask) → question_at world.questions number ≡ Some ask → IsTypeOver (tables_of world) ask.src × IsTypeOver (tables_of world) ask.dst
question-over world zero ask e = absurd cc
question-over world (suc k) ask e = asked-over world k ask e

question-there : (asks : List Ask) (number : ℕ) (ask : Ask) → question_at asks number ≡ Some ask → Contains asks ask
question-there asks zero ask e = absurd cc
question-there asks (suc k) ask e = (k, slice_get_within asks k ask e, get_or_from_slice_get asks k ask ask e)

-- two questions of a number are one
one-question : (asks : List Ask) (number : ℕ) (ask other : Ask) → question_at asks number ≡ Some ask → question_at asks number ≡ Some other → other ≡ ask
one-question asks number ask other e g = cc

-- what one question's status tells
module _ (P : Ask → Type 0) (ask : Ask) where
  one-yes : (good : Bool) → good ≡ true ↔ P ask → HasVerdict P (ask ∷ []) (status_when good)
  one-yes good means = by good means
    where
      by : (good : Bool) → good ≡ true ↔ P ask → HasVerdict P (ask ∷ []) (status_when good)
      by true m = verdict (λ a b. b ≡ true ↔ P a) P (λ b. b) (λ a b h. h) (ask ∷ []) (true ∷ []) (m, tt)
      by false m = verdict (λ a b. b ≡ true ↔ P a) P (λ b. b) (λ a b h. h) (ask ∷ []) (false ∷ []) (m, tt)

module _ (number : ℕ) (file : List ℕ) (world : World) where
  abbrev tables : Tables
  tables = tables_of world

  -- the status says whether the question is to be answered yes
  pub refute-verdict : (status : Status) (text : List ℕ) → IsRefuteReport tables world.questions number file status text
      → HasVerdict (HoldsOf tables) (option_to_list (question_at world.questions number)) status
  refute-verdict status text (inl r) =
      let over = question-over world number r.ask r.at in
      let no = (refuted tables r.ask r.refutation (chosen-refutes world r.ask r.refutation over.0 r.is)).unheld in
      subst (λ (found : Option Ask). HasVerdict (HoldsOf tables) (option_to_list found) status) (sym r.at)
      (subst (HasVerdict (HoldsOf tables) (r.ask ∷ [])) (sym r.status_is) (one-yes (HoldsOf tables) r.ask false (λ e. absurd cc, λ h. absurd (no h))))
  refute-verdict status text (inr r) =
      subst (λ (found : Option Ask). HasVerdict (HoldsOf tables) (option_to_list found) status) (sym r.at)
      (subst (HasVerdict (HoldsOf tables) (r.ask ∷ [])) (sym r.status_is) (one-yes (HoldsOf tables) r.ask (is_yes r.answer) (answer-means-holding tables r.ask r.answer r.is.is_true)))

  -- a question whose refutation is written, or that has none, has none that is too long
  pub not-past : (status : Status) (text : List ℕ) → IsRefuteReport tables world.questions number file status text → IsPast tables world.questions number → ⊥
  not-past status text (inl r) p =
      let ask = one-question world.questions number r.ask p.ask r.at p.at in
      let same = refutation-one tables r.ask p.refutation r.refutation (subst (λ (a : Ask). IsRefutationOf tables a p.refutation) ask p.is) r.is in
      let many = subst (λ (x : Refutation). most_cells_together < cells_of x) same p.many in
      let few = r.few in
      omega (arith, many, few)
  not-past status text (inr r) p =
      let ask = one-question world.questions number r.ask p.ask r.at p.at in
      r.none (is-refutable tables r.ask p.refutation (subst (λ (a : Ask). IsRefutationOf tables a p.refutation) ask p.is))

module _ (tables : Tables) (asks : List Ask) (number : ℕ) where
  -- no other text is the report
  pub refute-same : (file : List ℕ) → ((ask : Ask) → Contains asks ask → NoSharedTexts tables ask) → (status status' : Status) (text text' : List ℕ)
      → IsRefuteReport tables asks number file status text → IsRefuteReport tables asks number file status' text' → (status' ≡ status) × (text' ≡ text)
  refute-same file apart status status' text text' (inl r) (inl s) =
      let ask = one-question asks number r.ask s.ask r.at s.at in
      let same = refutation-one tables r.ask s.refutation r.refutation (subst (λ (a : Ask). IsRefutationOf tables a s.refutation) ask s.is) r.is in
      (s.status_is ∙ sym r.status_is, s.text_is ∙ ap (λ x. refutation_text number x ++ file) same ∙ sym r.text_is)
  refute-same file apart status status' text text' (inl r) (inr s) =
      absurd (s.none (is-refutable tables s.ask r.refutation (subst (λ (a : Ask). IsRefutationOf tables a r.refutation) (one-question asks number s.ask r.ask s.at r.at) r.is)))
  refute-same file apart status status' text text' (inr r) (inl s) =
      absurd (r.none (is-refutable tables r.ask s.refutation (subst (λ (a : Ask). IsRefutationOf tables a s.refutation) (one-question asks number r.ask s.ask r.at s.at) s.is)))
  refute-same file apart status status' text text' (inr r) (inr s) =
      let ask = one-question asks number r.ask s.ask r.at s.at in
      let same = IsAnswer-unique tables r.ask (apart r.ask (question-there asks number r.ask r.at)) s.answer r.answer (subst (λ (a : Ask). IsAnswer tables a s.answer) ask s.is) r.is in
      (s.status_is ∙ ap (λ a. status_when (is_yes a)) same ∙ sym r.status_is, s.text_is ∙ ap (answer_line number tables) same ∙ sym r.text_is)

  pub verify-same : (x : Refutation) (status status' : Status) (text text' : List ℕ)
      → IsVerifyReport tables asks number x status text → IsVerifyReport tables asks number x status' text' → (status' ≡ status) × (text' ≡ text)
  verify-same x status status' text text' r s =
      let ask = one-question asks number r.ask s.ask r.at s.at in
      let means = subst (λ (a : Ask). s.holds ≡ true ↔ Refutes tables a x) ask s.means in
      let same = both s.holds r.holds (λ h. r.means.1 (means.0 h)) (λ h. means.1 (r.means.0 h)) in
      (s.status_is ∙ ap status_when same ∙ sym r.status_is, s.text_is ∙ ap (λ b. verdict_line b number) same ∙ sym r.text_is)
    where
      both : (b c : Bool) → (b ≡ true → c ≡ true) → (c ≡ true → b ≡ true) → b ≡ c
      both true c f g = sym (f refl)
      both false true f g = g refl
      both false false f g = refl

  -- the status says whether the refutation holds
  pub verify-verdict : (x : Refutation) (status : Status) (text : List ℕ) → IsVerifyReport tables asks number x status text
      → HasVerdict (λ ask. Refutes tables ask x) (option_to_list (question_at asks number)) status
  verify-verdict x status text r =
      subst (λ (found : Option Ask). HasVerdict (λ ask. Refutes tables ask x) (option_to_list found) status) (sym r.at)
      (subst (HasVerdict (λ ask. Refutes tables ask x) (r.ask ∷ [])) (sym r.status_is) (one-yes (λ ask. Refutes tables ask x) r.ask r.holds r.means))

-- why a refutation isn't written
pub refuting-stops : (world : World) (number : ℕ) (ask : Ask) → question_at world.questions number ≡ Some ask → (err : RefuteErr)
    → (err ≡ TooLong → (x : Refutation) × IsRefutationOf (tables_of world) ask x × (most_cells_together < cells_of x)) → IsRefutationStop number world (stop_of_refuting err)
refuting-stops world number ask at TooLong h = let (x, is, many) = h refl in (record { ask = ask; at = at; refutation = x; is = is; many = many }, refl)
refuting-stops world number ask at RefuteMemory h = tt

-- a refutation that isn't too long can be written
pub chosen-writable : (world : World) (number : ℕ) (ask : Ask) → question_at world.questions number ≡ Some ask → (x : Refutation) → AreGood → IsRefutationOf (tables_of world) ask x
    → cells_of x ≤ most_cells_together → IsWritable (pointer_size world.profile) x
chosen-writable world number ask at x good is few =
    let (src, dst) = question-over world number ask at in
    let g = good world ask x src dst is in
    g.writable (record { few_entries = g.few_entries; few_cells = few })
