-- What is decided of a file: the report on it, or its fault.
use Rattle.std.proofs.Common.{◌≡◌, ◌≢◌, ◌∙◌, ℕ, ◌⊎◌, inl, inr, ◌↔◌, refl, sym, ap, subst, List}
use Rattle.tm_base.specs.declared.world.World.{World}
use Rattle.tm_base.specs.Worlds.{tables_of}
use Rattle.tm_report.specs.FaultLines.{line_of}
use Rattle.tm_report.specs.declared.fault.FileFault.{FileFault}
use Rattle.tm_report.specs.declared.fault.FileFault.TheVariants.{NotUtf8, NoToken, BadNumber, OpenComment, Unexpected, EndOfFile, Passed, Names, BadRefutation, NoQuestion}
use Rattle.tm_run.specs.Held.{EachHolds, HoldsFor, SomeDoesNot, questions_for}
use Rattle.tm_names.specs.declared.resolved.Resolved.{Resolved}
use Rattle.tm_run.specs.Examined.{IsExamined, IsOnlyFault, IsReportStop, IsStop, too_long}
use Rattle.tm_run.specs.Faults.{IsFaulty, status_of_fault}
use Rattle.tm_run.specs.Files.{IsAccepted, IsTooLong, IsWorldOf}
use Rattle.tm_run.specs.Refutations.{PassesCells}
use Rattle.tm_run.specs.Outcomes.{IsFileOutcome, IsReport, HasOutcome}
use Rattle.tm_run.specs.Reported.{IsReported}
use Rattle.tm_run.specs.Runs.{Decides}
use Rattle.tm_run.specs.declared.words.options.Options.{Options}
use Rattle.tm_run.specs.declared.status.Status.{Status}
use Rattle.tm_run.specs.declared.status.Status.TheVariants.{AllYes, Mixed, Usage, BadText, Limit, IllFormed, NoQuestion as NoSuchQuestion}
use Rattle.tm_run.specs.declared.stop.Stop.{Stop}
use Rattle.tm_run.specs.declared.stop.Stop.TheVariants.{Fault, Memory}
use Rattle.tm_run.proofs.answers.OnlyLemmas.{each-all_yes, not-too-long, only-report, reported-verdict, some-mixed}
use Rattle.tm_run.proofs.answers.VerdictLemmas.{HasVerdict}

-- the statuses of faults and of reports
abbrev OneOfFaults : Status → Type 0
OneOfFaults status = (status ≡ BadText) ⊎ ((status ≡ Limit) ⊎ ((status ≡ IllFormed) ⊎ (status ≡ NoSuchQuestion)))

fault_status : (fault : FileFault) → OneOfFaults (status_of_fault fault)
fault_status (NotUtf8 at) = inl refl
fault_status (NoToken at) = inl refl
fault_status (BadNumber at) = inl refl
fault_status (OpenComment at) = inl refl
fault_status (Unexpected at) = inl refl
fault_status (EndOfFile at) = inl refl
fault_status (Passed kind place) = inr (inl refl)
fault_status (Names why at) = inr (inr (inl refl))
fault_status (BadRefutation line) = inl refl
fault_status (NoQuestion number) = inr (inr (inr refl))

pub settled_fault : (fault : FileFault) → HasOutcome (status_of_fault fault)
settled_fault fault = by (fault_status fault)
  where
    by : OneOfFaults (status_of_fault fault) → HasOutcome (status_of_fault fault)
    by (inl e) = subst HasOutcome (sym e) tt
    by (inr (inl e)) = subst HasOutcome (sym e) tt
    by (inr (inr (inl e))) = subst HasOutcome (sym e) tt
    by (inr (inr (inr e))) = subst HasOutcome (sym e) tt

-- the status of a report is one of two
module _ (options : Options) (file : List ℕ) (status : Status) (text : List ℕ) (report : IsReport options file status text) where
  report-verdict : HasVerdict (HoldsFor options.mode (tables_of report.world)) (questions_for options.mode (tables_of report.world) report.world.questions) status
  report-verdict = reported-verdict options.mode options file report.world status text report.reported

  settled_report : HasOutcome status
  settled_report = by report-verdict.two
    where
      by : (status ≡ AllYes) ⊎ (status ≡ Mixed) → HasOutcome status
      by (inl e) = subst HasOutcome (sym e) tt
      by (inr e) = subst HasOutcome (sym e) tt

  -- and none of a fault's or of a misuse
  pub not_of_report : (status ≢ Usage) × (status ≢ Limit) × (status ≢ BadText) × (status ≢ IllFormed) × (status ≢ NoSuchQuestion)
  not_of_report = by report-verdict.two
    where
      by : (status ≡ AllYes) ⊎ (status ≡ Mixed) → (status ≢ Usage) × (status ≢ Limit) × (status ≢ BadText) × (status ≢ IllFormed) × (status ≢ NoSuchQuestion)
      by (inl e) = (λ k. cc, λ k. cc, λ k. cc, λ k. cc, λ k. cc)
      by (inr e) = (λ k. cc, λ k. cc, λ k. cc, λ k. cc, λ k. cc)

-- and a fault's status is none of a report's or of a misuse
pub not_of_fault : (fault : FileFault) (status : Status) → status ≡ status_of_fault fault → (status ≢ Usage) × (status ≢ AllYes) × (status ≢ Mixed)
not_of_fault fault status is = by (fault_status fault)
  where
    by : OneOfFaults (status_of_fault fault) → (status ≢ Usage) × (status ≢ AllYes) × (status ≢ Mixed)
    by (inl f) = (λ e. cc, λ e. cc, λ e. cc)
    by (inr (inl f)) = (λ e. cc, λ e. cc, λ e. cc)
    by (inr (inr (inl f))) = (λ e. cc, λ e. cc, λ e. cc)
    by (inr (inr (inr f))) = (λ e. cc, λ e. cc, λ e. cc)

accepted_of : (options : Options) (file : List ℕ) (world : World) → IsWorldOf options file world → IsAccepted options file
accepted_of options file world of_file = record { resolved = of_file.resolved; answerable = of_file.answerable; short = of_file.short }

-- the only fault of a file decides it
pub fault_decides : (options : Options) (file : List ℕ) (fault : FileFault) → IsOnlyFault options file fault → Decides options file (status_of_fault fault) (line_of fault)
fault_decides options file fault one = record {
  settled = settled_fault fault;
  outcome = inr (record { fault = fault; has = one.has; status_is = refl; text_is = refl });
  accepted = λ a. absurd (one.refused a);
  only = λ status text r. absurd (one.refused (accepted_of options file r.world r.of_file));
  each_holds = λ e. absurd (one.refused (accepted_of options file e.world e.of_file));
  some_does_not = λ s. absurd (one.refused (accepted_of options file s.world s.of_file));
  faulted = λ other h. (sym (ap status_of_fault (one.only other h)), sym (ap line_of (one.only other h)));
}

-- what a file's world comes to decides it
pub report_decides : (options : Options) (file : List ℕ) (world : World) (status : Status) (text : List ℕ) → IsExamined options file world
    → IsReported options.mode options file world status text → Decides options file status text
report_decides options file world status text w r = record {
  settled = settled_report options file status text report;
  outcome = inl report;
  accepted = λ a. report;
  only = only-report options file world w status text r;
  each_holds = λ e. verdict.all_yes.1 (each-all_yes options file world w status text r e);
  some_does_not = λ s. verdict.mixed.1 (some-mixed options file world w status text r s);
  faulted = λ fault has. absurd (short (w.faultless fault has).0);
}
  where
    short : ¬ IsTooLong options w.resolved
    short = not-too-long options file world w status text r

    report : IsReport options file status text
    report = record { world = world; of_file = record { resolved = w.resolved; answerable = w.answerable; short = short; belongs = w.belongs }; reported = r }

    verdict : HasVerdict (HoldsFor options.mode (tables_of world)) (questions_for options.mode (tables_of world) world.questions) status
    verdict = reported-verdict options.mode options file world status text r

-- a refutation that has too many cells is the one fault
pub cells_only : (options : Options) (file : List ℕ) (world : World) → IsExamined options file world → PassesCells options.mode world → IsOnlyFault options file too_long
cells_only options file world w passes = record {
  has = inr (record { resolved = w.resolved; names = w.answerable.names; first = (w.answerable.limits, long) });
  only = λ other h. (w.faultless other h).1;
  refused = λ a. a.short (subst (λ (r : Resolved). IsTooLong options r) (sym (w.only a.resolved a.answerable.names)) long);
}
  where
    long : IsTooLong options w.resolved
    long = record { world = world; belongs = w.belongs; passes = passes }

-- what stops a report stops its file
pub report_stops : (options : Options) (file : List ℕ) (world : World) → IsExamined options file world → (stop : Stop) → IsReportStop options.mode world stop → IsStop options file stop
report_stops options file world w (Fault fault) (passes, is) = subst (λ (f : FileFault). IsOnlyFault options file f) (sym is) (cells_only options file world w passes)
report_stops options file world w Memory h = tt

-- what is decided of a file
module _ (options : Options) (file : List ℕ) (status : Status) (text : List ℕ) (d : Decides options file status text) where
  -- a status that no report has comes exactly where the file has a fault of that status
  pub decides_faulty : (ends : Status) → ((s : Status) (t : List ℕ) → IsReport options file s t → s ≢ ends) → status ≡ ends ↔ IsFaulty options file ends
  decides_faulty ends other = (λ e. by e d.outcome, λ faulty. (d.faulted faulty.fault faulty.has).0 ∙ faulty.status_is)
    where
      by : status ≡ ends → IsFileOutcome options file status text → IsFaulty options file ends
      by e (inl report) = absurd (other status text report e)
      by e (inr refusal) = record { fault = refusal.fault; has = refusal.has; status_is = sym refusal.status_is ∙ e }

  pub decides_used : status ≢ Usage
  decides_used e = by d.outcome
    where
      by : IsFileOutcome options file status text → ⊥
      by (inl report) = (not_of_report options file status text report).0 e
      by (inr refusal) = (not_of_fault refusal.fault status refusal.status_is).0 e

  pub decides_all_yes : status ≡ AllYes ↔ EachHolds options file
  decides_all_yes = (λ e. by e d.outcome, d.each_holds)
    where
      by : status ≡ AllYes → IsFileOutcome options file status text → EachHolds options file
      by e (inl report) = record { world = report.world; of_file = report.of_file; each = (report-verdict options file status text report).all_yes.0 e }
      by e (inr refusal) = absurd ((not_of_fault refusal.fault status refusal.status_is).1 e)

  pub decides_mixed : status ≡ Mixed ↔ SomeDoesNot options file
  decides_mixed = (λ e. by e d.outcome, d.some_does_not)
    where
      by : status ≡ Mixed → IsFileOutcome options file status text → SomeDoesNot options file
      by e (inl report) = record { world = report.world; of_file = report.of_file; some = (report-verdict options file status text report).mixed.0 e }
      by e (inr refusal) = absurd ((not_of_fault refusal.fault status refusal.status_is).2 e)
