-- What is decided of an input: what is decided of its file, or the fault of its text.
use Rattle.std.proofs.Common.{◌≡◌, ◌≢◌, ◌∙◌, ℕ, ◌<◌, inl, inr, ◌↔◌, refl, sym, ap, subst, Bool, true, false, None, Option, List, length, Result, Ok, Err, IfErr, IfOk, arith}
use Rattle.tm_base.specs.declared.limit.LimitKind.TheVariants.{TextBytes, FileBytes}
use Rattle.tm_base.specs.Limits.{limit_number}
use Rattle.tm_refute.specs.declared.refutation.Refutation.{Refutation}
use Rattle.tm_refute.proofs.forms.GoingOnLemmas.{texts-apart}
use Rattle.tm_report.specs.FaultLines.{line_of}
use Rattle.tm_report.specs.declared.fault.FileFault.{FileFault}
use Rattle.tm_report.specs.declared.fault.FileFault.TheVariants.{BadRefutation, Passed}
use Rattle.tm_run.specs.Examined.{IsStop}
use Rattle.tm_run.specs.Faults.{HasFault, IsFaulty, status_of_fault}
use Rattle.tm_run.specs.Files.{IsAccepted}
use Rattle.tm_run.specs.Held.{EachHolds, SomeDoesNot}
use Rattle.tm_run.specs.Inputs.{AsksBy, AsksOf, HasInputFault, HasTextFault, IsFaultyInput, IsTextOf, OfInput, input_limit, limit_by, pointer_for, to_verify}
use Rattle.tm_run.specs.Outcomes.{IsFileOutcome, IsInputOutcome, IsReport}
use Rattle.tm_run.specs.Runs.{Answers, Decides, DecidesInput, Declines, IsInputStop}
use Rattle.tm_run.specs.declared.words.options.Options.{Options}
use Rattle.tm_run.specs.declared.status.Status.{Status}
use Rattle.tm_run.specs.declared.status.Status.TheVariants.{BadText, Limit, IllFormed, NoQuestion}
use Rattle.tm_run.specs.declared.stop.Stop.{Stop}
use Rattle.tm_run.specs.declared.stop.Stop.TheVariants.{Fault, Memory}
use Rattle.tm_run.proofs.files.DecideLemmas.{decides_all_yes, decides_faulty, decides_mixed, decides_used, fault_decides, not_of_fault, not_of_report, settled_fault}
use Rattle.tm_run.proofs.files.FaultLemmas.{long_only}

-- an input asks one thing of one file
asks-same : (text : Bool) (options : Options) (input : List ℕ) (asked other : Options) (file behind : List ℕ)
    → AsksBy text options input asked file → AsksBy text options input other behind → (asked ≡ other) × (file ≡ behind)
asks-same false options input asked other file behind (a, f) (b, g) = (a ∙ sym b, f ∙ sym g)
asks-same true options input asked other file behind (number, x, is, a) (number', x', is', b) =
    let same = (texts-apart (pointer_for options) input).alone number number' x x' file behind is.text is'.text in
    (a ∙ (ap (λ (n : ℕ). to_verify n x options) same.number_same ∙ (ap (λ (r : Refutation). to_verify number' r options) same.refutation_same ∙ sym b)), same.rest_same)

-- what is so of the file of which an input asks is so of each of which it does
known : (IsSo : Options → List ℕ → Type 0) (options : Options) (input : List ℕ) (asked : Options) (file : List ℕ) → AsksOf options input asked file
    → OfInput IsSo options input → IsSo asked file
known IsSo options input asked file asks of =
    let (a, f) = asks-same options.verify options input of.asked asked of.file file of.asks asks in
    subst (λ (x : List ℕ). IsSo asked x) f (subst (λ (x : Options). IsSo x of.file) a of.so)

-- a text with a fault asks nothing of a file
asks-nothing : (options : Options) (input : List ℕ) (fault : FileFault) → options.verify ≡ true → HasTextFault options input fault
    → (asked : Options) (file : List ℕ) → AsksOf options input asked file → ⊥
asks-nothing options input fault text has asked file asks = by has (subst (λ (v : Bool). AsksBy v options input asked file) text asks)
  where
    by : HasTextFault options input fault → AsksBy true options input asked file → ⊥
    by (inl (is, long)) (number, x, of, a) = let short = of.short in omega (arith, long, short)
    by (inr (line, is, bad)) (number, x, of, a) = (texts-apart (pointer_for options) input).apart line number x file bad.bad of.text

-- a text has one fault at most
one-text-fault : (options : Options) (input : List ℕ) (fault other : FileFault) → HasTextFault options input fault → HasTextFault options input other → other ≡ fault
one-text-fault options input fault other (inl (e, long)) (inl (f, more)) = f ∙ sym e
one-text-fault options input fault other (inl (e, long)) (inr (line, f, bad)) = let short = bad.short in absurd (omega (arith, long, short))
one-text-fault options input fault other (inr (line, e, bad)) (inl (f, long)) = let short = bad.short in absurd (omega (arith, long, short))
one-text-fault options input fault other (inr (line, e, bad)) (inr (line', f, bad')) =
    f ∙ (ap BadRefutation ((texts-apart (pointer_for options) input).one_line line' line bad'.bad bad.bad) ∙ sym e)

-- what is decided of a file is decided of the input that asks of it
module _ (options : Options) (input : List ℕ) (asked : Options) (file : List ℕ) (asks : AsksOf options input asked file) where
  of-file : (IsSo : Options → List ℕ → Type 0) → IsSo asked file → OfInput IsSo options input
  of-file IsSo so = record { asked = asked; file = file; asks = asks; so = so }

  of-file-fault : (fault : FileFault) → HasInputFault options input fault → HasFault asked file fault
  of-file-fault fault (inl (text, has)) = absurd (asks-nothing options input fault text has asked file asks)
  of-file-fault fault (inr of) = known (λ x f. HasFault x f fault) options input asked file asks of

  faulty-so : (ends : Status) → IsFaulty asked file ends ↔ IsFaultyInput options input ends
  faulty-so ends = (
    λ f. record { fault = f.fault; has = inr (of-file (λ x g. HasFault x g f.fault) f.has); status_is = f.status_is },
    λ f. record { fault = f.fault; has = of-file-fault f.fault f.has; status_is = f.status_is },
  )

  module _ (status : Status) (text : List ℕ) (d : Decides asked file status text) where
    outcome-of : IsFileOutcome asked file status text → IsInputOutcome options input status text
    outcome-of (inl report) = inl (of-file (λ x f. IsReport x f status text) report)
    outcome-of (inr refusal) = inr (record { fault = refusal.fault; has = inr (of-file (λ x f. HasFault x f refusal.fault) refusal.has); status_is = refusal.status_is; text_is = refusal.text_is })

    ends-so : (ends : Status) → ((s : Status) (t : List ℕ) → IsReport asked file s t → s ≢ ends) → status ≡ ends ↔ IsFaultyInput options input ends
    ends-so ends other =
        let so = decides_faulty asked file status text d ends other in
        (λ e. (faulty-so ends).0 (so.0 e), λ f. so.1 ((faulty-so ends).1 f))

    pub file-decides : DecidesInput options input status text
    file-decides = record {
      settled = d.settled;
      used = decides_used asked file status text d;
      outcome = outcome-of d.outcome;
      accepted = λ a. of-file (λ x f. IsReport x f status text) (d.accepted (known IsAccepted options input asked file asks a));
      only = λ other line report. d.only other line (known (λ x f. IsReport x f other line) options input asked file asks report);
      faulted = λ fault has. d.faulted fault (of-file-fault fault has);
      all_yes = let so = decides_all_yes asked file status text d in (λ e. of-file EachHolds (so.0 e), λ h. so.1 (known EachHolds options input asked file asks h));
      mixed = let so = decides_mixed asked file status text d in (λ e. of-file SomeDoesNot (so.0 e), λ h. so.1 (known SomeDoesNot options input asked file asks h));
      bad_text = ends-so BadText (λ s t report. (not_of_report asked file s t report).2);
      limit = ends-so Limit (λ s t report. (not_of_report asked file s t report).1);
      ill_formed = ends-so IllFormed (λ s t report. (not_of_report asked file s t report).3);
      no_question = ends-so NoQuestion (λ s t report. (not_of_report asked file s t report).4);
    }

  -- and so is what stops its report
  file-stops : (stop : Stop) → IsStop asked file stop → IsInputStop options input stop
  file-stops (Fault fault) one = file-decides (status_of_fault fault) (line_of fault) (fault_decides asked file fault one)
  file-stops Memory h = tt

  pub judged-report : (result : Result (Status × List ℕ) Stop) → IfOk result (λ outcome. Decides asked file outcome.0 outcome.1) → IfOk result (λ outcome. DecidesInput options input outcome.0 outcome.1)
  judged-report (Ok outcome) d = file-decides outcome.0 outcome.1 d
  judged-report (Err stop) h = tt

  pub judged-stop : (result : Result (Status × List ℕ) Stop) → IfErr result (IsStop asked file) → IfErr result (IsInputStop options input)
  judged-stop (Ok outcome) h = tt
  judged-stop (Err stop) h = file-stops stop h

-- the fault of a text decides an input
module _ (options : Options) (input : List ℕ) (fault : FileFault) (text : options.verify ≡ true) (has : HasTextFault options input fault) where
  no-file : (IsSo : Options → List ℕ → Type 0) → OfInput IsSo options input → ⊥
  no-file IsSo of = asks-nothing options input fault text has of.asked of.file of.asks

  text-only : (other : FileFault) → HasInputFault options input other → other ≡ fault
  text-only other (inl (v, h)) = one-text-fault options input fault other has h
  text-only other (inr of) = absurd (no-file (λ x f. HasFault x f other) of)

  text-ends : (ends : Status) → status_of_fault fault ≡ ends ↔ IsFaultyInput options input ends
  text-ends ends = (
    λ e. record { fault = fault; has = inl (text, has); status_is = e },
    λ f. sym (ap status_of_fault (text-only f.fault f.has)) ∙ f.status_is,
  )

  pub text-decides : DecidesInput options input (status_of_fault fault) (line_of fault)
  text-decides = let none = not_of_fault fault (status_of_fault fault) refl in record {
    settled = settled_fault fault;
    used = none.0;
    outcome = inr (record { fault = fault; has = inl (text, has); status_is = refl; text_is = refl });
    accepted = λ a. absurd (no-file IsAccepted a);
    only = λ other line report. absurd (no-file (λ x f. IsReport x f other line) report);
    faulted = λ other h. let same = text-only other h in (sym (ap status_of_fault same), sym (ap line_of same));
    all_yes = (λ e. absurd (none.1 e), λ h. absurd (no-file EachHolds h));
    mixed = (λ e. absurd (none.2 e), λ h. absurd (no-file SomeDoesNot h));
    bad_text = text-ends BadText;
    limit = text-ends Limit;
    ill_formed = text-ends IllFormed;
    no_question = text-ends NoQuestion;
  }

-- without a text the input is the file
pub asks-itself : (options : Options) (input : List ℕ) → options.verify ≡ false → AsksOf options input options input
asks-itself options input none = subst (λ (v : Bool). AsksBy v options input options input) (sym none) (refl, refl)

-- with a text the file stands behind it
pub asks-behind : (options : Options) (input : List ℕ) (asked : Options) (file : List ℕ) → options.verify ≡ true → (number : ℕ) (x : Refutation) (rest : List ℕ)
    → IsTextOf options input number x rest → file ≡ rest → asked ≡ to_verify number x options → AsksOf options input asked file
asks-behind options input asked file text number x rest is same to =
    subst (λ (v : Bool). AsksBy v options input asked file) (sym text) (number, x, subst (λ (f : List ℕ). IsTextOf options input number x f) (sym same) is, to)

-- an input that is too long is decided
pub long-decides : (options : Options) (input : List ℕ) → limit_number (input_limit options) < length input
    → DecidesInput options input Limit (line_of (Passed (input_limit options) None))
long-decides options input = by options.verify refl
  where
    by : (v : Bool) → options.verify ≡ v → limit_number (limit_by v) < length input → DecidesInput options input Limit (line_of (Passed (limit_by v) None))
    by false none long = file-decides options input options input (asks-itself options input none) Limit (line_of (Passed FileBytes None))
        (fault_decides options input (Passed FileBytes None) (long_only options input long))
    by true text long = text-decides options input (Passed TextBytes None) text (inl (refl, long))

-- an input that is stopped by a fault is answered by its line
pub stop-answers : (options : Options) (input : List ℕ) (fault : FileFault) (written written' : Option (List ℕ)) (faults faults' : ℕ) (result : Status)
    → IsInputStop options input (Fault fault) → Declines written written' faults faults' fault result → Answers written written' faults faults' options input result
stop-answers options input fault written written' faults faults' result stop (inl f) =
    inl (record { status = status_of_fault fault; text = line_of fault; decides = stop; finishes = f })
stop-answers options input fault written written' faults faults' result stop (inr wants) = inr wants
