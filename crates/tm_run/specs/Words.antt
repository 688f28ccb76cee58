-- What the words of a run ask for.
use Rattle.std.specs.Prelude.{String, ℕ, ◌&&◌, ◌||◌, Bool, false, if◌then◌else◌, Option, Some, None, is_some, option_map, option_and_then, List, [], map, codes, not, string_bytes, unwrap_or}
use Rattle.std.specs.Global.{Global}
use Rattle.tm_base.specs.declared.profile.Profile.{Profile}
use Rattle.tm_base.specs.declared.profile.Profile.TheVariants.{Le64}
use Rattle.tm_run.specs.declared.words.options.Mode.{Mode}
use Rattle.tm_run.specs.declared.words.options.Mode.TheVariants.{Needs, Matrix, Bytes, Refute}
use Rattle.tm_run.specs.declared.words.options.Options.{Options}
use Rattle.tm_run.specs.Uses.{uses_of, with_uses, Given, given_by}
use Rattle.tm_run.specs.Values.{number_of, question_number, profile_of, bytes_read}

-- What the text of an option stands for, where the option may be left out: nothing where it isn't given, and no answer
-- where it is given with a text that isn't in form.
abbrev pub in_form : {X : Type 0} → Option (Option X) → Option (Option X)
in_form None = Some None
in_form (Some None) = None
in_form (Some (Some x)) = Some (Some x)

-- one of two modes, or none where neither is asked for; both aren't
abbrev pub one_of : Option Mode → Option Mode → Option (Option Mode)
one_of None other = Some other
one_of (Some mode) None = Some (Some mode)
one_of (Some mode) (Some other) = None

abbrev pub if_given : Bool → Mode → Option Mode
if_given given mode = if given then Some mode else None

-- the values that the options are given, where they are in form
abbrev pub number_given : Given → Option (Option ℕ)
number_given given = in_form (option_map number_of (given.value (codes "generate")))

abbrev pub profile_given : Given → Option (Option Profile)
profile_given given = in_form (option_map profile_of (given.value (codes "profile")))

abbrev pub bytes_given : Given → Option (Option (List ℕ))
bytes_given given = in_form (option_map bytes_read (given.value (codes "bytes")))

abbrev pub question_given : Given → Option (Option ℕ)
question_given given = in_form (option_map question_number (given.value (codes "refute")))

-- the mode that is asked for, if one is: by an option that has no value, and by one that has
abbrev pub plain_mode : Given → Option (Option Mode)
plain_mode given = one_of (if_given (given.is_given (codes "needs")) Needs) (if_given (given.is_given (codes "matrix")) Matrix)

abbrev pub valued_mode : Given → Option (Option Mode)
valued_mode given = option_and_then (λ bytes. option_and_then (λ number. one_of (option_map Bytes bytes) (option_map Refute number)) (question_given given)) (bytes_given given)

abbrev pub mode_of : Given → Option (Option Mode)
mode_of given = option_and_then (λ plain. option_and_then (one_of plain) (valued_mode given)) (plain_mode given)

-- there is one mode at most, of which `--verify` is one, and with it neither a summary nor a generated file is asked for
abbrev pub go_together : Options → Bool
go_together options =
    (not (is_some options.mode) || not options.verify)
    && (not (is_some options.mode || options.verify) || (not options.summary && not (is_some options.generate)))

abbrev pub if_together : Options → Option Options
if_together options = if go_together options then Some options else None

-- what the given options ask for
abbrev pub options_given : Given → Option Options
options_given given =
    option_and_then (λ number. option_and_then (λ profile. option_and_then (λ mode. if_together (record {
      summary = given.is_given (codes "summary");
      generate = number;
      profile = profile;
      mode = mode;
      verify = given.is_given (codes "verify");
    })) (mode_of given)) (profile_given given)) (number_given given)

-- what the words ask for. They are in form where there is such an answer: each is a part of an option, no option
-- stands twice and no two modes do, and a mode stands beside a profile alone.
abbrev pub options_of : List (List ℕ) → Option Options
options_of words = option_and_then (λ uses. options_given (given_by uses)) (option_and_then (with_uses []) (uses_of None words))

-- the bytes of each word
abbrev pub texts_of : List (String Global) → List (List ℕ)
texts_of = map string_bytes

-- the same of the words that a run is given
abbrev pub asked : List (String Global) → Option Options
asked words = options_of (texts_of words)

-- the profile for which files are answered: the one that is named, or else le64
abbrev pub profile_for : Options → Profile
profile_for options = unwrap_or options.profile Le64

-- whether an input is read: the words are in form, and no file is generated
abbrev pub is_read : Option Options → Bool
is_read None = false
is_read (Some options) = not (is_some options.generate)
