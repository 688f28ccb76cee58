-- Answers to questions: what each of them says, and whether each of some is yes.
use Rattle.std.proofs.Common.{◌≡◌, ◌≤◌, ◌⊎◌, inl, inr, ◌↔◌, true, false, IsTrue, refl, List, length, arith}
use Rattle.std.specs.List.{All, AllZip}
use Rattle.std.proofs.lemmas.Slice.Zip.{AllZip-long}
use Rattle.tm_base.specs.declared.answer.Answer.{Answer}
use Rattle.tm_base.specs.declared.answer.Answer.TheVariants.{Yes, YesBecause, No, NoAt, Refused}
use Rattle.tm_base.specs.declared.ask.Ask.{Ask}
use Rattle.tm_base.specs.declared.world.World.{World}
use Rattle.tm_base.specs.Answers.{AreJudged, Casts, IsAnswer, IsTrueAnswer}
use Rattle.tm_base.specs.declared.answer.Side.TheVariants.{Source, Target}
use Rattle.tm_base.specs.Asked.{HoldsOf}
use Rattle.tm_base.specs.Cells.{HasWholeReferences, Word}
use Rattle.tm_base.specs.Profiles.{pointer_size}
use Rattle.tm_base.specs.Rules.{Taken, source, target}
use Rattle.tm_base.specs.Tables.{Tables}
use Rattle.tm_base.specs.Transmutes.{EveryWordFits, IsSourceWord, IsUninhabited, Same, SomeWordFits}
use Rattle.tm_base.specs.Worlds.{tables_of}
use Rattle.tm_laws.specs.AnswerKinds.{is_refusal, is_yes}
use Rattle.tm_laws.proofs.known.AnswerMeanings.{answer-means}
use Rattle.tm_laws.proofs.whole.Types.{expanded_in-for}
use Rattle.tm_laws.proofs.whole.Words.{whole-references}
use Rattle.tm_report.specs.AnswerLines.{HasWholeWord}
use Rattle.tm_run.specs.Answers.{AreAnswered, IsAnswered, IsRight, ReachesFault}
use Rattle.tm_run.proofs.answers.VerdictLemmas.{zip-all}

module _ (tables : Tables) (ask : Ask) where
  -- what a side reaches isn't at fault where both are judged
  judged-faultless : AreJudged tables ask → ¬ ReachesFault tables ask
  judged-faultless judged (Source, g, why, reached, at_fault) = let none = judged.source_judged g reached in cc
  judged-faultless judged (Target, g, why, reached, at_fault) = let none = judged.target_judged g reached in cc

  refusal-right : (answer : Answer) → IsTrueAnswer tables ask answer → IsTrue (is_refusal answer) ↔ ReachesFault tables ask
  refusal-right Yes h = (λ e. cc, λ f. absurd (judged-faultless h.judged f))
  refusal-right (YesBecause w) h = (λ e. cc, λ f. absurd (judged-faultless h.judged f))
  refusal-right (No rule) h = (λ e. cc, λ f. absurd (judged-faultless h.judged f))
  refusal-right (NoAt rule o w fault) h = (λ e. cc, λ f. absurd (judged-faultless h.judged f))
  refusal-right (Refused side why g) h = (λ e. (side, g, why, h.reached, h.at_fault), λ f. refl)

  -- without `validity` a cast holds where each value fits, and with it where some does or there is none
  casts-each : ask.assume.validity ≡ false → Casts tables ask ↔ EveryWordFits (Taken tables ask) ask.assume.safety (source tables ask) (target tables ask)
  casts-each e = (by, λ each. inr (inl (e, each)))
    where
      by : Casts tables ask → EveryWordFits (Taken tables ask) ask.assume.safety (source tables ask) (target tables ask)
      by (inl none) = λ w value. absurd (none w value)
      by (inr (inl (f, each))) = each
      by (inr (inr (f, some))) = cc

  casts-some : ask.assume.validity ≡ true → Casts tables ask ↔ (SomeWordFits (Taken tables ask) ask.assume.safety (source tables ask) (target tables ask) ⊎ IsUninhabited (source tables ask))
  casts-some e = (by, back)
    where
      by : Casts tables ask → SomeWordFits (Taken tables ask) ask.assume.safety (source tables ask) (target tables ask) ⊎ IsUninhabited (source tables ask)
      by (inl none) = inr none
      by (inr (inl (f, each))) = cc
      by (inr (inr (f, some))) = inl some

      back : SomeWordFits (Taken tables ask) ask.assume.safety (source tables ask) (target tables ask) ⊎ IsUninhabited (source tables ask) → Casts tables ask
      back (inl some) = inr (inr (e, some))
      back (inr none) = inl none

  pub answer-right : (answer : Answer) → IsTrueAnswer tables ask answer → IsRight tables ask answer
  answer-right answer h =
      let means = answer-means tables ask answer h in
      record {
        refused = refusal-right answer h;
        each = λ judged e. let (there, back) = casts-each e in
            (λ y. there ((means.allowed judged).0 y), λ fits. (means.allowed judged).1 (back fits));
        some = λ judged e. let (there, back) = casts-some e in
            (λ y. there ((means.allowed judged).0 y), λ fits. (means.allowed judged).1 (back fits));
        shows = h;
      }

  -- the word of an answer has whole references
  value-whole : (w : Word) → IsSourceWord (source tables ask) w → HasWholeReferences (pointer_size tables.profile) w
  value-whole w value = whole-references tables.profile Same true (source tables ask) (expanded_in-for tables ask.src) w value

  pub answer-whole : (answer : Answer) → IsTrueAnswer tables ask answer → HasWholeWord (pointer_size tables.profile) answer
  answer-whole Yes h = tt
  answer-whole (YesBecause w) h = value-whole w h.value
  answer-whole (No rule) h = tt
  answer-whole (NoAt rule o w fault) h = value-whole w h.value
  answer-whole (Refused side why g) h = tt

  -- a true answer is yes exactly where both types are judged and the cast holds
  yes-judged : (answer : Answer) → IsTrueAnswer tables ask answer → is_yes answer ≡ true → AreJudged tables ask
  yes-judged Yes h e = h.judged
  yes-judged (YesBecause w) h e = h.judged
  yes-judged (No rule) h e = cc
  yes-judged (NoAt rule o w fault) h e = cc
  yes-judged (Refused side why g) h e = cc

  -- so a refusal is of a question that isn't judged
  pub refusal-unjudged : (answer : Answer) → IsTrue (is_refusal answer) → IsTrueAnswer tables ask answer → ¬ AreJudged tables ask
  refusal-unjudged answer e h judged = judged-faultless judged ((refusal-right answer h).0 e)

  yes-holds : (answer : Answer) → IsTrueAnswer tables ask answer → is_yes answer ≡ true → HoldsOf tables ask
  yes-holds answer h e =
      let judged = yes-judged answer h e in
      record { judged = judged; casts = ((answer-means tables ask answer h).allowed judged).0 e }

  holds-yes : (answer : Answer) → IsTrueAnswer tables ask answer → HoldsOf tables ask → is_yes answer ≡ true
  holds-yes answer h holds = ((answer-means tables ask answer h).allowed holds.judged).1 holds.casts

  pub answer-means-holding : (answer : Answer) → IsTrueAnswer tables ask answer → is_yes answer ≡ true ↔ HoldsOf tables ask
  answer-means-holding answer h = (yes-holds answer h, holds-yes answer h)

  -- what isn't refused is judged
  pub unrefused-judged : (answer : Answer) → is_refusal answer ≡ false → IsTrueAnswer tables ask answer → AreJudged tables ask
  unrefused-judged Yes e h = h.judged
  unrefused-judged (YesBecause w) e h = h.judged
  unrefused-judged (No rule) e h = h.judged
  unrefused-judged (NoAt rule o w fault) e h = h.judged
  unrefused-judged (Refused side why g) e h = cc

-- the answer to a question says what is so, with the least evidence
pub answered-so : (world : World) (ask : Ask) (answer : Answer) → IsAnswer (tables_of world) ask answer → IsAnswered world ask answer
answered-so world ask answer h = record { right = answer-right (tables_of world) ask answer h.is_true; least = h }

-- ---- answers one after another

-- the words of answers have whole references
pub answers-whole : (world : World) (asks : List Ask) (answers : List Answer) → AreAnswered world asks answers → All (HasWholeWord (pointer_size world.profile)) answers
answers-whole world asks answers h =
    zip-all (IsAnswered world) (HasWholeWord (pointer_size world.profile)) (λ ask a answered. answer-whole (tables_of world) ask a answered.least.is_true) asks answers h

-- there are no more answers, or whatever goes with questions one by one, than questions
pub zip-few : {Y : Type 0} (R : Ask → Y → Type 0) (world : World) (ys : List Y) → AllZip R world.questions ys → length ys ≤ 256
zip-few R world ys h =
    let long = AllZip-long R world.questions ys h in
    let few : length world.questions ≤ 256 = world.few_questions in
    omega (arith, long, few)
