-- The input of a run: a file, or with `--verify` the text of a refutation with the file behind it.
use Rattle.std.specs.Prelude.{◌≡◌, ℕ, ◌<◌, ◌≤◌, ◌⊎◌, Bool, true, false, Option, None, Some, List, length}
use Rattle.tm_base.specs.declared.limit.LimitKind.{LimitKind}
use Rattle.tm_base.specs.declared.limit.LimitKind.TheVariants.{FileBytes, TextBytes}
use Rattle.tm_base.specs.Limits.{limit_number}
use Rattle.tm_base.specs.Profiles.{pointer_size}
use Rattle.tm_refute.specs.TextForms.{IsBadLine, IsRefutationText}
use Rattle.tm_refute.specs.declared.refutation.Refutation.{Refutation}
use Rattle.tm_report.specs.declared.fault.FileFault.{FileFault}
use Rattle.tm_report.specs.declared.fault.FileFault.TheVariants.{BadRefutation, Passed}
use Rattle.tm_run.specs.Faults.{HasFault, status_of_fault}
use Rattle.tm_run.specs.Words.{profile_for}
use Rattle.tm_run.specs.declared.words.options.Mode.TheVariants.{Verify}
use Rattle.tm_run.specs.declared.words.options.Options.{Options}
use Rattle.tm_run.specs.declared.status.Status.{Status}

-- what is asked of a file that stands behind the text of this refutation of the question with the number
abbrev pub to_verify : ℕ → Refutation → Options → Options
to_verify number x options = record options { mode = Some (Verify number x) }

-- how many bytes a reference has
abbrev pub pointer_for : Options → ℕ
pointer_for options = pointer_size (profile_for options)

-- the greatest number of bytes that a text with its file has
abbrev pub text_bytes : ℕ
text_bytes = limit_number TextBytes

-- the input isn't too long, and it is the text of the refutation of the question with the number, and behind it the file
pub record IsTextOf (options : Options) (input : List ℕ) (number : ℕ) (x : Refutation) (file : List ℕ) : Type 0 where
  pub short : length input ≤ text_bytes
  pub text : IsRefutationText (pointer_for options) input number x file

-- by whether a text is to be verified
abbrev pub AsksBy : Bool → Options → List ℕ → Options → List ℕ → Type 0
AsksBy false options input asked file = (asked ≡ options) × (file ≡ input)
AsksBy true options input asked file = (number : ℕ) × (x : Refutation) × IsTextOf options input number x file × (asked ≡ to_verify number x options)

-- With these options the input asks this of the file: without `--verify` the input is the file, and with it the file
-- stands behind the text of the refutation that is to be verified.
abbrev pub AsksOf : Options → List ℕ → Options → List ℕ → Type 0
AsksOf options = AsksBy options.verify options

-- the input asks something of a file, and for that the file is so
pub record OfInput (IsSo : Options → List ℕ → Type 0) (options : Options) (input : List ℕ) : Type 0 where
  pub asked : Options
  pub file : List ℕ
  pub asks : AsksOf options input asked file
  pub so : IsSo asked file

-- the text isn't too long, and this line of it is the bad one
pub record IsBadText (options : Options) (input : List ℕ) (line : ℕ) : Type 0 where
  pub short : length input ≤ text_bytes
  pub bad : IsBadLine (pointer_for options) input line

-- the input has the fault, in place of a text with its file: it is too long, or a line isn't in form
abbrev pub HasTextFault : Options → List ℕ → FileFault → Type 0
HasTextFault options input fault =
    ((fault ≡ Passed TextBytes None) × (text_bytes < length input))
    ⊎ ((line : ℕ) × (fault ≡ BadRefutation line) × IsBadText options input line)

-- the text that is to be verified has the fault, or the file has it of which the input asks
abbrev pub HasInputFault : Options → List ℕ → FileFault → Type 0
HasInputFault options input fault =
    ((options.verify ≡ true) × HasTextFault options input fault)
    ⊎ OfInput (λ asked file. HasFault asked file fault) options input

-- the input has a fault for which the run ends with the status
pub record IsFaultyInput (options : Options) (input : List ℕ) (status : Status) : Type 0 where
  pub fault : FileFault
  pub has : HasInputFault options input fault
  pub status_is : status_of_fault fault ≡ status

-- the limit on the bytes of an input, by whether a text is to be verified
abbrev pub limit_by : Bool → LimitKind
limit_by false = FileBytes
limit_by true = TextBytes

abbrev pub input_limit : Options → LimitKind
input_limit options = limit_by options.verify

-- the greatest number of bytes that the input has, by what the words ask for
abbrev pub most_read : Option Options → ℕ
most_read None = 0
most_read (Some options) = limit_number (input_limit options)
