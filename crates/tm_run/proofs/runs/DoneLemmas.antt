-- What a run did, by what became of its input.
use Rattle.std.proofs.Common.{◌≡◌, ◌≤◌, ℕ, true, false, inl, inr, is_some, not, refl, subst, sym, Option, None, Some, List, length}
use Rattle.tm_base.specs.Limits.{limit_number}
use Rattle.tm_gen.specs.Generated.{generated_file}
use Rattle.tm_io.specs.Faults.{Rose}
use Rattle.tm_io.specs.Told.{TakesAll, TakesPast}
use Rattle.tm_report.specs.declared.fault.FileFault.TheVariants.{Passed}
use Rattle.tm_run.specs.Inputs.{input_limit}
use Rattle.tm_run.specs.Runs.{Answers, Declines, Did, GetsInput, IsSilent, failed_to_read, lacked_memory, overflowed, answered}
use Rattle.tm_run.specs.Words.{is_read}
use Rattle.tm_run.specs.declared.words.options.Options.{Options}
use Rattle.tm_run.specs.declared.status.Status.{Status}
use Rattle.tm_run.specs.declared.status.Status.TheVariants.{ReadFault, Memory}

-- an input is read where no file is generated
pub read-so : (number : Option ℕ) → number ≡ None → not (is_some number) ≡ true
read-so None e = refl
read-so (Some n) e = cc

module _ (options : Options) (left left' : Option (List ℕ)) (reads reads' : ℕ) (written written' : Option (List ℕ)) (writes writes' : ℕ) (result : Status) where
  abbrev DidSo : Type 0
  DidSo = Did (Some options) left left' reads reads' written written' writes writes' result

  -- an input was got, and was answered or memory was wanting
  got-did : (input : List ℕ) → reads' ≡ reads → GetsInput (limit_number (input_limit options)) options.generate left left' input → (is_read (Some options) ≡ false → left' ≡ left)
      → Answers written written' writes writes' options input result → DidSo
  got-did input kept gets unread (inl s) = answered (record { options = options; in_form = refl; reads_are = kept; input = input; gets = gets; settles = s })
  got-did input kept gets unread (inr (e, silent)) = lacked_memory (record { is = e; unread = unread; reads_are = kept; silent = silent })

  module _ (none : options.generate ≡ None) where
    not-unread : is_read (Some options) ≡ false → left' ≡ left
    not-unread h = let so = read-so options.generate none in cc

    pub read-did : (input : List ℕ) → reads' ≡ reads → TakesAll left left' input → length input ≤ limit_number (input_limit options) → Answers written written' writes writes' options input result → DidSo
    read-did input kept takes short answers =
        got-did input kept (subst (λ (number : Option ℕ). GetsInput (limit_number (input_limit options)) number left left' input) (sym none) (takes, short)) not-unread answers

    -- reading failed
    pub failed-did : result ≡ ReadFault → Rose reads reads' → IsSilent written written' writes writes' → DidSo
    failed-did e rose silent = failed_to_read (record { to_read = read-so options.generate none; is = e; rose = rose; silent = silent })

    -- memory was wanting
    pub lacked-did : result ≡ Memory → reads' ≡ reads → IsSilent written written' writes writes' → DidSo
    lacked-did e kept silent = lacked_memory (record { is = e; unread = not-unread; reads_are = kept; silent = silent })

    -- the input was too long, and its line was written or memory was wanting
    pub declined-did : reads' ≡ reads → TakesPast left left' (limit_number (input_limit options)) → Declines written written' writes writes' (Passed (input_limit options) None) result → DidSo
    declined-did kept past (inl f) = overflowed (record { options = options; in_form = refl; to_read = none; reads_are = kept; past = past; finishes = f })
    declined-did kept past (inr (e, silent)) = lacked-did e kept silent

-- a file was generated, and was answered or memory was wanting; nothing was read
pub generated-did : (options : Options) (number : ℕ) (left : Option (List ℕ)) (reads : ℕ) (written written' : Option (List ℕ)) (writes writes' : ℕ) (result : Status)
    → options.generate ≡ Some number → Answers written written' writes writes' options (generated_file number) result
    → Did (Some options) left left reads reads written written' writes writes' result
generated-did options number left reads written written' writes writes' result some answers =
    got-did options left left reads reads written written' writes writes' result (generated_file number) refl
    (subst (λ (n : Option ℕ). GetsInput (limit_number (input_limit options)) n left left (generated_file number)) (sym some) (refl, refl)) (λ h. refl) answers
