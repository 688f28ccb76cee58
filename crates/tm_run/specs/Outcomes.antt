-- What a run comes to: a status, and the bytes that are written.
use Rattle.std.specs.Prelude.{◌≡◌, ℕ, ◌⊎◌, Option, Some, None, List, ◌++◌, ⊤, codes}
use Rattle.tm_base.specs.declared.world.World.{World}
use Rattle.tm_gen.specs.Generated.{generated_file}
use Rattle.tm_io.specs.Told.{AddsAll, AddsPrefix}
use Rattle.tm_report.specs.FaultLines.{line_end, line_of}
use Rattle.tm_report.specs.declared.fault.FileFault.{FileFault}
use Rattle.tm_run.specs.Faults.{HasFault, status_of_fault}
use Rattle.tm_run.specs.Files.{IsWorldOf}
use Rattle.tm_run.specs.Inputs.{HasInputFault, OfInput}
use Rattle.tm_run.specs.Reported.{IsReported}
use Rattle.tm_run.specs.declared.words.options.Options.{Options}
use Rattle.tm_run.specs.declared.status.Status.{Status}
use Rattle.tm_run.specs.declared.status.Status.TheVariants.{AllYes, Mixed, Usage, BadText, Limit, ReadFault, WriteFault, Memory, IllFormed, NoQuestion}

abbrev pub usage_line : List ℕ
usage_line = codes "usage: transmute_report [--profile NAME] [--summary] [--generate N] [MODE]" ++ line_end

-- The headline: the world belongs to the file and to what is asked, and it comes to this status and text, by what
-- the options ask for. Without a mode each question has its answer, and the text is the report on these answers.
pub record IsReport (options : Options) (file : List ℕ) (status : Status) (text : List ℕ) : Type 0 where
  pub world : World
  pub of_file : IsWorldOf options file world
  pub reported : IsReported options.mode options file world status text

-- the text is the line of a fault that the file has
pub record IsRefusal (options : Options) (file : List ℕ) (status : Status) (text : List ℕ) : Type 0 where
  pub fault : FileFault
  pub has : HasFault options file fault
  pub status_is : status ≡ status_of_fault fault
  pub text_is : text ≡ line_of fault

-- What is answered to a file: the report on it, or why it gets none.
abbrev pub IsFileOutcome : Options → List ℕ → Status → List ℕ → Type 0
IsFileOutcome options file status text = IsReport options file status text ⊎ IsRefusal options file status text

-- the same, of the file of which an input asks
abbrev pub IsInputReport : Options → List ℕ → Status → List ℕ → Type 0
IsInputReport options input status text = OfInput (λ asked file. IsReport asked file status text) options input

-- the text is the line of a fault that the input has
pub record IsInputRefusal (options : Options) (input : List ℕ) (status : Status) (text : List ℕ) : Type 0 where
  pub fault : FileFault
  pub has : HasInputFault options input fault
  pub status_is : status ≡ status_of_fault fault
  pub text_is : text ≡ line_of fault

-- What is answered to an input: the report on its file, or why it gets none.
abbrev pub IsInputOutcome : Options → List ℕ → Status → List ℕ → Type 0
IsInputOutcome options input status text = IsInputReport options input status text ⊎ IsInputRefusal options input status text

-- What a run comes to where no read and no write fails and memory is found: by what its words ask for, where
-- they are in form, and by its input.
abbrev pub IsOutcome : Option Options → List ℕ → Status → List ℕ → Type 0
IsOutcome None input status text = (status ≡ Usage) × (text ≡ usage_line)
IsOutcome (Some options) input status text = IsInputOutcome options input status text

-- no read and no write failed, and memory was found
abbrev pub HasOutcome : Status → Type 0
HasOutcome ReadFault = ⊥
HasOutcome WriteFault = ⊥
HasOutcome Memory = ⊥
HasOutcome AllYes = Unit {0}
HasOutcome Mixed = Unit {0}
HasOutcome Usage = Unit {0}
HasOutcome BadText = Unit {0}
HasOutcome Limit = Unit {0}
HasOutcome IllFormed = Unit {0}
HasOutcome NoQuestion = Unit {0}

-- The input that is asked for: the file of a number, or else the bytes up to their end, which the source told.
abbrev pub IsInputOf : Option ℕ → Option (List ℕ) → List ℕ → Type 0
IsInputOf (Some number) left input = input ≡ generated_file number
IsInputOf None left input = left ≡ Some input

-- The same, of a source that may tell nothing: where it tells its bytes the input is these.
abbrev pub IsInputIfTold : Option ℕ → Option (List ℕ) → List ℕ → Type 0
IsInputIfTold (Some number) left input = input ≡ generated_file number
IsInputIfTold None left input = (told : List ℕ) → left ≡ Some told → input ≡ told

-- the input of a run; with words that aren't in form none is asked for
abbrev pub IsInput : Option Options → Option (List ℕ) → List ℕ → Type 0
IsInput None left input = ⊤
IsInput (Some options) left input = IsInputIfTold options.generate left input

-- the words are in form and ask for this, the input is the one that they ask for, and the run is settled
pub record IsRunOn (asked : Option Options) (left : Option (List ℕ)) (options : Options) (input : List ℕ) (status : Status) : Type 0 where
  pub in_form : asked ≡ Some options
  pub input_is : IsInputOf options.generate left input
  pub settled : HasOutcome status

-- the whole text of the outcome of an input was written
pub record WritesOutcome (asked : Option Options) (left : Option (List ℕ)) (status : Status) (before now : Option (List ℕ)) : Type 0 where
  pub input : List ℕ
  pub input_is : IsInput asked left input
  pub text : List ℕ
  pub outcome : IsOutcome asked input status text
  pub adds : AddsAll before now text

-- a front of it was written
pub record WritesPrefix (asked : Option Options) (left : Option (List ℕ)) (before now : Option (List ℕ)) : Type 0 where
  pub input : List ℕ
  pub input_is : IsInput asked left input
  pub status : Status
  pub text : List ℕ
  pub outcome : IsOutcome asked input status text
  pub adds : AddsPrefix before now text

-- the whole report was written
abbrev pub WritesReport : Options → List ℕ → Status → Option (List ℕ) → Option (List ℕ) → Type 0
WritesReport options input status before now = (text : List ℕ) × IsInputReport options input status text × AddsAll before now text

-- the status is that of the fault, and its whole line was written
abbrev pub WritesFault : FileFault → Status → Option (List ℕ) → Option (List ℕ) → Type 0
WritesFault fault status before now = (status ≡ status_of_fault fault) × AddsAll before now (line_of fault)
