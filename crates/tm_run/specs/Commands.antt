-- The command that clap is given, and what it finds.
use Rattle.std.specs.Prelude.{ℕ, ◌&&◌, ◌||◌, Bool, true, not, Some, None, is_some, option_to_list, if◌then◌else◌, List, map, codes, bytes_eq}
use Rattle.clap.specs.Matches.{first_value, found_of, matched_of}
use Rattle.clap.specs.Simple.{App, new_app, new_rule}
use Rattle.clap.specs.Walk.{Row, Rule}
use Rattle.clap.specs.declared.builder.action.ArgAction.TheVariants.{Set}
use Rattle.clap.specs.declared.builder.value_parser.Reading.TheVariants.{AsWritten}
use Rattle.clap.specs.declared.parser.matches.ArgMatches.{ArgMatches}
use Rattle.clap.specs.declared.parser.matches.ValueSource.TheVariants.{CommandLine}
use Rattle.tm_run.specs.Uses.{Given, Use, begins_with, options}

-- an option with so many values
abbrev pub rule_with : List ℕ → ℕ → Rule
rule_with name values = record (new_rule name) {
  long = Some name;
  action = Some Set;
  range = Some (record { start_inclusive = values; end_inclusive = values });
}

abbrev pub rule_for : List ℕ × Bool → Rule
rule_for o = rule_with o.0 (if o.1 then 1 else 0)

-- the command: the options, with no help and no version
abbrev pub command_app : App
command_app = record (new_app (codes "transmute_report")) {
  top = record (new_app (codes "transmute_report")).top { rules = map rule_for options; no_binary_name = true; disable_help_flag = true; disable_version_flag = true };
}

-- a word that begins as an option does and is none: `--` alone, and any with one `-`
abbrev pub is_stray : List ℕ → Bool
is_stray word = begins_with (codes "-") word && (bytes_eq word (codes "--") || not (begins_with (codes "--") word))

-- what clap finds of a use
abbrev pub row_of_use : Use → Row
row_of_use one = record { id = one.0; values = option_to_list one.1; count = None; source = Some CommandLine; reading = AsWritten }

-- the options that clap found
abbrev pub given_in : ArgMatches → Given
given_in m = record { is_given = λ name. is_some (matched_of (found_of m) name); value = first_value (found_of m) }
