-- What a world comes to is the only thing, and its status is what the world's questions come to.
use Rattle.std.proofs.Common.{◌≡◌, ◌∙◌, ℕ, refl, sym, ap, subst, Bool, true, false, Option, Some, None, List, ◌++◌, length, Contains}
use Rattle.std.specs.List.{All, AllZip, Any, list_all}
use Rattle.tm_base.specs.declared.answer.Answer.{Answer}
use Rattle.tm_base.specs.declared.ask.Ask.{Ask}
use Rattle.tm_base.specs.declared.world.World.{World}
use Rattle.tm_base.specs.Answers.{IsAnswer, NoSharedTexts}
use Rattle.tm_base.specs.Asked.{HoldsOf}
use Rattle.tm_base.specs.Tables.{Tables}
use Rattle.tm_base.specs.Worlds.{tables_of}
use Rattle.tm_base.proofs.AnswerLemmas.{IsAnswer-unique}
use Rattle.tm_ground.specs.Belongs.{BelongsToFile}
use Rattle.tm_ground.specs.OneWorld.{AreOneWorld}
use Rattle.tm_ground.proofs.world.OneWorldLemmas.{one-world}
use Rattle.tm_ground.proofs.texts.SharedTexts.{no_shared_texts}
use Rattle.tm_laws.specs.AnswerKinds.{is_yes}
use Rattle.tm_matrix.specs.Matrix.{IsMatrix}
use Rattle.tm_matrix.specs.declared.marks.Line.{Line}
use Rattle.tm_names.specs.declared.resolved.Resolved.{Resolved}
use Rattle.tm_run.specs.Answers.{AreAnswered, IsAnswered}
use Rattle.tm_run.specs.Examined.{IsExamined}
use Rattle.tm_run.specs.Files.{IsTooLong, IsWorldOf}
use Rattle.tm_run.specs.Held.{EachHolds, HoldsFor, SomeDoesNot, questions_for}
use Rattle.tm_run.specs.Marks.{is_line_yes, matrix_lines, matrix_questions, types_of}
use Rattle.tm_run.specs.Matches.{AreValueOf, IsMatch, is_valid, match_lines}
use Rattle.tm_run.specs.Needs.{HoldsUnderSome, IsNeed, is_met, need_lines}
use Rattle.tm_run.specs.Outcomes.{IsReport}
use Rattle.tm_run.specs.Refutations.{IsPast, IsRefuteReport, IsVerifyReport, PassesCells}
use Rattle.tm_run.specs.Report.{generated_line, report_by, report_for, report_of, status_of, status_when, summary_of}
use Rattle.tm_run.specs.Reported.{IsReported}
use Rattle.tm_run.specs.declared.matched.Match.{Match}
use Rattle.tm_run.specs.declared.reported.need.Need.{Need}
use Rattle.tm_run.specs.declared.words.options.Mode.{Mode}
use Rattle.tm_run.specs.declared.words.options.Mode.TheVariants.{Needs, Matrix, Bytes, Refute, Verify}
use Rattle.tm_run.specs.declared.words.options.Options.{Options}
use Rattle.tm_run.specs.declared.status.Status.{Status}
use Rattle.tm_run.proofs.answers.AnswerLemmas.{answer-means-holding}
use Rattle.tm_run.proofs.answers.MarkLemmas.{lines-same, matrix-verdict}
use Rattle.tm_run.proofs.answers.MatchLemmas.{match-means, match-same}
use Rattle.tm_run.proofs.answers.NeedLemmas.{need-means, need-same}
use Rattle.tm_run.proofs.answers.RefuteLemmas.{not-past, refute-same, refute-verdict, verify-same, verify-verdict}
use Rattle.tm_run.proofs.answers.VerdictLemmas.{HasVerdict, verdict, zip-same, zip-weaker}

-- the status says what holds of the questions
pub reported-verdict : (mode : Option Mode) (options : Options) (file : List ℕ) (world : World) (status : Status) (text : List ℕ) → IsReported mode options file world status text
    → HasVerdict (HoldsFor mode (tables_of world)) (questions_for mode (tables_of world) world.questions) status
reported-verdict None options file world status text r =
    subst (HasVerdict (HoldsOf (tables_of world)) world.questions) (sym r.status_is)
    (verdict (IsAnswered world) (HoldsOf (tables_of world)) is_yes (λ ask a h. answer-means-holding (tables_of world) ask a h.least.is_true) world.questions r.answers r.answered)
reported-verdict (Some Needs) options file world status text r =
    subst (HasVerdict (HoldsUnderSome (tables_of world)) world.questions) (sym r.status_is)
    (verdict (IsNeed (tables_of world)) (HoldsUnderSome (tables_of world)) is_met (need-means (tables_of world)) world.questions r.needs r.each)
reported-verdict (Some (Bytes bytes)) options file world status text r =
    subst (HasVerdict (AreValueOf bytes (tables_of world)) world.questions) (sym r.status_is)
    (verdict (IsMatch (tables_of world) bytes) (AreValueOf bytes (tables_of world)) is_valid (match-means (tables_of world) bytes) world.questions r.matches r.each)
reported-verdict (Some (Refute number)) options file world status text r = refute-verdict number file world status text r
reported-verdict (Some (Verify number x)) options file world status text r = verify-verdict (tables_of world) world.questions number x status text r
reported-verdict (Some Matrix) options file world status text r =
    subst (HasVerdict (HoldsOf (tables_of world)) (matrix_questions (tables_of world) world.questions)) (sym r.status_is)
    (matrix-verdict (tables_of world) (types_of world.questions) r.lines r.marked)

-- two worlds that say and ask the same
module _ (one other : World) (same : AreOneWorld other one) where
  -- what goes with the questions of the one goes with those of the other
  moved : {Y : Type 0} (R : Tables → Ask → Y → Type 0) (ys : List Y) → AllZip (R (tables_of other)) other.questions ys → AllZip (R (tables_of one)) one.questions ys
  moved R ys h = subst (λ (asks : List Ask). AllZip (R (tables_of one)) asks ys) same.questions (subst (λ (t : Tables). AllZip (R t) other.questions ys) same.tables h)

  -- they have the same report, in each form
  report-same : (options : Options) (file : List ℕ) (answers : List Answer) → report_for options file other answers ≡ report_for options file one answers
  report-same options file answers = by options.generate options.summary
    where
      by : (number : Option ℕ) (summary : Bool) → report_by number summary file other answers ≡ report_by number summary file one answers
      by (Some number) summary = ap (λ (asks : List Ask). generated_line number (length file) (length asks) ++ summary_of answers) same.questions
      by None true = refl
      by None false = ap (λ tables. report_of tables answers) same.tables

  module _ (apart : (ask : Ask) → Contains one.questions ask → NoSharedTexts (tables_of one) ask) (options : Options) (file : List ℕ) where
    answers-same : (ours theirs : List Answer) → AreAnswered one one.questions ours → AreAnswered other other.questions theirs → theirs ≡ ours
    answers-same ours theirs h k =
        zip-same (IsAnswer (tables_of one)) one.questions theirs ours (λ ask i a b. IsAnswer-unique (tables_of one) ask (apart ask i) a b)
        (moved IsAnswer theirs (zip-weaker (IsAnswered other) (IsAnswer (tables_of other)) (λ ask a h. h.least) other.questions theirs k))
        (zip-weaker (IsAnswered one) (IsAnswer (tables_of one)) (λ ask a h. h.least) one.questions ours h)

    needs-same : (ours theirs : List Need) → AllZip (IsNeed (tables_of one)) one.questions ours → AllZip (IsNeed (tables_of other)) other.questions theirs → theirs ≡ ours
    needs-same ours theirs h k = zip-same (IsNeed (tables_of one)) one.questions theirs ours (λ ask i. need-same (tables_of one) ask (apart ask i)) (moved IsNeed theirs k) h

    matches-same : (bytes : List ℕ) (ours theirs : List Match) → AllZip (IsMatch (tables_of one) bytes) one.questions ours → AllZip (IsMatch (tables_of other) bytes) other.questions theirs → theirs ≡ ours
    matches-same bytes ours theirs h k =
        zip-same (IsMatch (tables_of one) bytes) one.questions theirs ours (λ ask i. match-same (tables_of one) bytes ask (apart ask i)) (moved (λ tables. IsMatch tables bytes) theirs k) h

    marks-same : (ours theirs : List Line) → IsMatrix (tables_of one) (types_of one.questions) ours → IsMatrix (tables_of other) (types_of other.questions) theirs → theirs ≡ ours
    marks-same ours theirs h k =
        lines-same (tables_of one) (types_of one.questions) ours theirs h
        (subst (λ (asks : List Ask). IsMatrix (tables_of one) (types_of asks) theirs) same.questions (subst (λ (t : Tables). IsMatrix t (types_of other.questions) theirs) same.tables k))

    -- come to one status and one text
    pub reported-same : (mode : Option Mode) (status status' : Status) (text text' : List ℕ) → IsReported mode options file one status text → IsReported mode options file other status' text'
        → (status' ≡ status) × (text' ≡ text)
    reported-same None status status' text text' r s =
        let e = answers-same r.answers s.answers r.answered s.answered in (
          s.status_is ∙ ap status_of e ∙ sym r.status_is,
          s.text_is ∙ report-same options file s.answers ∙ ap (report_for options file one) e ∙ sym r.text_is,
        )
    reported-same (Some Needs) status status' text text' r s =
        let e = needs-same r.needs s.needs r.each s.each in (
          s.status_is ∙ ap (λ needs. status_when (list_all is_met needs)) e ∙ sym r.status_is,
          s.text_is ∙ ap (λ tables. need_lines tables 1 s.needs) same.tables ∙ ap (need_lines (tables_of one) 1) e ∙ sym r.text_is,
        )
    reported-same (Some (Bytes bytes)) status status' text text' r s =
        let e = matches-same bytes r.matches s.matches r.each s.each in (
          s.status_is ∙ ap (λ matches. status_when (list_all is_valid matches)) e ∙ sym r.status_is,
          s.text_is ∙ ap (λ tables. match_lines tables 1 s.matches) same.tables ∙ ap (match_lines (tables_of one) 1) e ∙ sym r.text_is,
        )
    reported-same (Some (Refute number)) status status' text text' r s =
        refute-same (tables_of one) one.questions number file apart status status' text text' r
        (subst (λ (asks : List Ask). IsRefuteReport (tables_of one) asks number file status' text') same.questions
        (subst (λ (t : Tables). IsRefuteReport t other.questions number file status' text') same.tables s))
    reported-same (Some (Verify number x)) status status' text text' r s =
        verify-same (tables_of one) one.questions number x status status' text text' r
        (subst (λ (asks : List Ask). IsVerifyReport (tables_of one) asks number x status' text') same.questions
        (subst (λ (t : Tables). IsVerifyReport t other.questions number x status' text') same.tables s))
    reported-same (Some Matrix) status status' text text' r s =
        let e = marks-same r.lines s.lines r.marked s.marked in (
          s.status_is ∙ ap (λ lines. status_when (list_all is_line_yes lines)) e ∙ sym r.status_is,
          s.text_is ∙ ap (λ tables. matrix_lines tables 0 (types_of other.questions) s.lines) same.tables
              ∙ ap (λ asks. matrix_lines (tables_of one) 0 (types_of asks) s.lines) same.questions
              ∙ ap (matrix_lines (tables_of one) 0 (types_of one.questions)) e ∙ sym r.text_is,
        )

module _ (options : Options) (file : List ℕ) (world : World) (w : IsExamined options file world) where
  -- each world of the file says the same and asks the same
  same-world : (other : World) → IsWorldOf options file other → AreOneWorld other world
  same-world other of_file =
      one-world w.resolved w.form w.apart other world
      (subst (λ (r : Resolved). BelongsToFile r other) (w.only of_file.resolved of_file.answerable.names) of_file.belongs) w.belongs

  -- the world's refutation, where it is to be written, is that of each world of the file
  passes-here : (other : World) → AreOneWorld other world → (mode : Option Mode) → PassesCells mode other → PassesCells mode world
  passes-here other same None h = h
  passes-here other same (Some Needs) h = h
  passes-here other same (Some Matrix) h = h
  passes-here other same (Some (Bytes bytes)) h = h
  passes-here other same (Some (Verify number x)) h = h
  passes-here other same (Some (Refute number)) h =
      subst (λ (asks : List Ask). IsPast (tables_of world) asks number) same.questions (subst (λ (t : Tables). IsPast t other.questions number) same.tables h)

  -- a report is on a file whose refutation isn't too long
  reported-short : (mode : Option Mode) (status : Status) (text : List ℕ) → IsReported mode options file world status text → ¬ PassesCells mode world
  reported-short None status text r h = h
  reported-short (Some Needs) status text r h = h
  reported-short (Some Matrix) status text r h = h
  reported-short (Some (Bytes bytes)) status text r h = h
  reported-short (Some (Verify number x)) status text r h = h
  reported-short (Some (Refute number)) status text r h = not-past number file world status text r h

  pub not-too-long : (status : Status) (text : List ℕ) → IsReported options.mode options file world status text → ¬ IsTooLong options w.resolved
  not-too-long status text r long =
      reported-short options.mode status text r (passes-here long.world (one-world w.resolved w.form w.apart long.world world long.belongs w.belongs) options.mode long.passes)

  module _ (status : Status) (text : List ℕ) (r : IsReported options.mode options file world status text) where
    pub only-report : (other : Status) (line : List ℕ) → IsReport options file other line → (other ≡ status) × (line ≡ text)
    only-report other line s =
        reported-same world s.world (same-world s.world s.of_file) (no_shared_texts w.resolved world w.belongs w.form w.apart) options file
        options.mode status other text line r s.reported

    -- what holds of the questions of some world of the file holds of those of this one
    here : (F : (Ask → Type 0) → List Ask → Type 0) (other : World) → IsWorldOf options file other
        → F (HoldsFor options.mode (tables_of other)) (questions_for options.mode (tables_of other) other.questions)
        → F (HoldsFor options.mode (tables_of world)) (questions_for options.mode (tables_of world) world.questions)
    here F other of_file h =
        let same = same-world other of_file in
        subst (λ asks. F (HoldsFor options.mode (tables_of world)) (questions_for options.mode (tables_of world) asks)) same.questions
        (subst (λ tables. F (HoldsFor options.mode tables) (questions_for options.mode tables other.questions)) same.tables h)

    pub each-all_yes : EachHolds options file → All (HoldsFor options.mode (tables_of world)) (questions_for options.mode (tables_of world) world.questions)
    each-all_yes e = here All e.world e.of_file e.each

    pub some-mixed : SomeDoesNot options file → Any (λ ask. ¬ HoldsFor options.mode (tables_of world) ask) (questions_for options.mode (tables_of world) world.questions)
    some-mixed s = here (λ P asks. Any (λ ask. ¬ P ask) asks) s.world s.of_file s.some
