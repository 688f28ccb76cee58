-- What the parts of a run keep.
use Rattle.std.specs.Prelude.{◌≡◌, ◌≢◌, ℕ, ◌<◌, ◌≤◌, ◌⊎◌, ◌↔◌, true, false, Option, None, Some, List, length}
use Rattle.tm_base.specs.Limits.{limit_number}
use Rattle.tm_gen.specs.Generated.{generated_file}
use Rattle.tm_io.specs.Faults.{Rose}
use Rattle.tm_io.specs.Told.{AddsAll, AddsPrefix, TakesAll, TakesPast}
use Rattle.tm_report.specs.FaultLines.{line_of}
use Rattle.tm_report.specs.declared.fault.FileFault.{FileFault}
use Rattle.tm_report.specs.declared.fault.FileFault.TheVariants.{Passed}
use Rattle.tm_run.specs.Held.{EachHolds, SomeDoesNot}
use Rattle.tm_run.specs.Faults.{HasFault, status_of_fault}
use Rattle.tm_run.specs.Files.{IsAccepted}
use Rattle.tm_run.specs.Inputs.{HasInputFault, IsFaultyInput, OfInput, input_limit}
use Rattle.tm_run.specs.Outcomes.{IsFileOutcome, IsInputOutcome, IsInputReport, IsReport, HasOutcome, usage_line}
use Rattle.tm_run.specs.Words.{is_read}
use Rattle.tm_run.specs.declared.words.options.Options.{Options}
use Rattle.tm_run.specs.declared.status.Status.{Status}
use Rattle.tm_run.specs.declared.status.Status.TheVariants.{AllYes, Mixed, Usage, BadText, Limit, ReadFault, WriteFault, Memory, IllFormed, NoQuestion}
use Rattle.tm_run.specs.declared.stop.Stop.{Stop}
use Rattle.tm_run.specs.declared.stop.Stop.TheVariants.{Fault, Memory as Lacked}

-- what a sink tells of what was written, and its count of faults, before and after
module _ (written written' : Option (List ℕ)) (faults faults' : ℕ) where
  -- A text is written whole and its status answered, or writing fails.
  pub record Finishes (status : Status) (text : List ℕ) (result : Status) : Type 0 where
    pub ends : ((result ≡ status) × AddsAll written written' text) ⊎ ((result ≡ WriteFault) × Rose faults faults')
    pub part : AddsPrefix written written' text
    pub risen : faults < faults' → result ≡ WriteFault

  -- nothing is written
  pub record IsSilent : Type 0 where
    pub written_is : written' ≡ written
    pub faults_are : faults' ≡ faults

  -- The line of a fault is written, or memory is wanting.
  abbrev pub Declines : FileFault → Status → Type 0
  Declines fault result = Finishes (status_of_fault fault) (line_of fault) result ⊎ ((result ≡ Memory) × IsSilent)

-- The outcome of a file, and no other is: the report on it where it is accepted, with the status that its
-- questions come to, and the status and the line of its fault where it has one.
pub record Decides (options : Options) (file : List ℕ) (status : Status) (text : List ℕ) : Type 0 where
  pub settled : HasOutcome status
  pub outcome : IsFileOutcome options file status text
  pub accepted : IsAccepted options file → IsReport options file status text
  pub only : (other : Status) (line : List ℕ) → IsReport options file other line → (other ≡ status) × (line ≡ text)
  pub each_holds : EachHolds options file → status ≡ AllYes
  pub some_does_not : SomeDoesNot options file → status ≡ Mixed
  pub faulted : (fault : FileFault) → HasFault options file fault → (status ≡ status_of_fault fault) × (text ≡ line_of fault)

-- The outcome of an input, and no other is; and for each status that it may have what it comes from.
pub record DecidesInput (options : Options) (input : List ℕ) (status : Status) (text : List ℕ) : Type 0 where
  pub settled : HasOutcome status
  pub used : status ≢ Usage
  pub outcome : IsInputOutcome options input status text
  pub accepted : OfInput IsAccepted options input → IsInputReport options input status text
  pub only : (other : Status) (line : List ℕ) → IsInputReport options input other line → (other ≡ status) × (line ≡ text)
  pub faulted : (fault : FileFault) → HasInputFault options input fault → (status ≡ status_of_fault fault) × (text ≡ line_of fault)
  pub all_yes : status ≡ AllYes ↔ OfInput EachHolds options input
  pub mixed : status ≡ Mixed ↔ OfInput SomeDoesNot options input
  pub bad_text : status ≡ BadText ↔ IsFaultyInput options input BadText
  pub limit : status ≡ Limit ↔ IsFaultyInput options input Limit
  pub ill_formed : status ≡ IllFormed ↔ IsFaultyInput options input IllFormed
  pub no_question : status ≡ NoQuestion ↔ IsFaultyInput options input NoQuestion

-- a fault for which an input gets no report decides it
abbrev pub IsInputStop : Options → List ℕ → Stop → Type 0
IsInputStop options input (Fault fault) = DecidesInput options input (status_of_fault fault) (line_of fault)
IsInputStop options input Lacked = Unit {0}

-- the outcome of an input is written
pub record Settles (written written' : Option (List ℕ)) (faults faults' : ℕ) (options : Options) (input : List ℕ) (result : Status) : Type 0 where
  pub status : Status
  pub text : List ℕ
  pub decides : DecidesInput options input status text
  pub finishes : Finishes written written' faults faults' status text result

-- or memory is wanting
abbrev pub Answers : Option (List ℕ) → Option (List ℕ) → ℕ → ℕ → Options → List ℕ → Status → Type 0
Answers written written' faults faults' options input result =
    Settles written written' faults faults' options input result ⊎ ((result ≡ Memory) × IsSilent written written' faults faults')

-- How an input is got that has no more than so many bytes: it is made from its number and nothing is read, or the
-- source is read to its end.
abbrev pub GetsInput : ℕ → Option ℕ → Option (List ℕ) → Option (List ℕ) → List ℕ → Type 0
GetsInput most (Some number) left left' input = (input ≡ generated_file number) × (left' ≡ left)
GetsInput most None left left' input = TakesAll left left' input × (length input ≤ most)

-- What a run did with what its words ask for, a source and a sink.
module _ (asked : Option Options) (left left' : Option (List ℕ)) (reads reads' : ℕ) (written written' : Option (List ℕ)) (writes writes' : ℕ) (result : Status) where
  -- the words weren't in form: nothing was read
  pub record Misused : Type 0 where
    pub out_of_form : asked ≡ None
    pub left_is : left' ≡ left
    pub reads_are : reads' ≡ reads
    pub finishes : Finishes written written' writes writes' Usage usage_line result

  -- reading failed
  pub record FailedToRead : Type 0 where
    pub to_read : is_read asked ≡ true
    pub is : result ≡ ReadFault
    pub rose : Rose reads reads'
    pub silent : IsSilent written written' writes writes'

  -- memory was wanting
  pub record LackedMemory : Type 0 where
    pub is : result ≡ Memory
    pub unread : is_read asked ≡ false → left' ≡ left
    pub reads_are : reads' ≡ reads
    pub silent : IsSilent written written' writes writes'

  -- the input was too long
  pub record Overflowed : Type 0 where
    pub options : Options
    pub in_form : asked ≡ Some options
    pub to_read : options.generate ≡ None
    pub reads_are : reads' ≡ reads
    pub past : TakesPast left left' (limit_number (input_limit options))
    pub finishes : Finishes written written' writes writes' Limit (line_of (Passed (input_limit options) None)) result

  -- an input was read or generated, and its outcome written
  pub record Answered : Type 0 where
    pub options : Options
    pub in_form : asked ≡ Some options
    pub reads_are : reads' ≡ reads
    pub input : List ℕ
    pub gets : GetsInput (limit_number (input_limit options)) options.generate left left' input
    pub settles : Settles written written' writes writes' options input result

  pub data Did : Type 0 where
    misused : Misused → Did
    failed_to_read : FailedToRead → Did
    lacked_memory : LackedMemory → Did
    overflowed : Overflowed → Did
    answered : Answered → Did
