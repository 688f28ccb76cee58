-- Worked rows: where a byte stands, a file that isn't UTF-8, and words that are in form or aren't.
use Rattle.std.proofs.Common.{◌≡◌, ℕ, zero, suc, ◌<◌, refl, true, false, None, Some, [], ◌∷◌, codes, take, IsUtf8, arith}
use Rattle.std.specs.Str.{chars, is_utf8}
use Rattle.std.proofs.lemmas.Str.{IsUtf8-nil, is_utf8-from_IsUtf8}
use Rattle.tm_base.specs.declared.profile.Profile.TheVariants.{Be64}
use Rattle.tm_report.specs.declared.fault.FileFault.TheVariants.{NotUtf8}
use Rattle.tm_run.specs.Faults.{HasFault}
use Rattle.tm_run.specs.Places.{at_byte}
use Rattle.tm_run.specs.Uses.{options, uses_of, with_uses}
use Rattle.tm_run.specs.Words.{options_of}
use Rattle.tm_run.specs.declared.words.options.Mode.TheVariants.{Needs, Matrix}
use Rattle.tm_run.specs.declared.words.options.Options.{Options}

-- the byte that ends a line stands on it, and the byte behind it on the next
end_of_a_line : at_byte (0x41 ∷ 0x0A ∷ 0x42 ∷ []) 1 ≡ record { byte = 1; line = 1 }
end_of_a_line = refl

start_of_a_line : at_byte (0x41 ∷ 0x0A ∷ 0x42 ∷ []) 2 ≡ record { byte = 2; line = 2 }
start_of_a_line = refl

-- the byte FF is in no text
fails : is_utf8 (0xFF ∷ []) ≡ false
unfolding is_utf8 chars
fails = refl

no_text : IsUtf8 (0xFF ∷ []) → ⊥
no_text h = let passes = is_utf8-from_IsUtf8 (0xFF ∷ []) h in let f = fails in cc

no_longer : (m : ℕ) → 0 < m → IsUtf8 (take m (0xFF ∷ [])) → ⊥
no_longer zero h utf8 = absurd (omega arith)
no_longer (suc zero) h utf8 = no_text utf8
no_longer (suc (suc m)) h utf8 = no_text utf8

byte_outside_of_text : (options : Options) → HasFault options (0xFF ∷ []) (NotUtf8 (at_byte (0xFF ∷ []) 0))
byte_outside_of_text options = (refl, record { short = omega arith; broken = no_text; front = record { short = omega arith; front = IsUtf8-nil; longest = no_longer } })

-- each option in either form, in any order
three_options : options_of (codes "--profile=be64" ∷ codes "--generate" ∷ codes "007" ∷ codes "--summary" ∷ []) ≡ Some (record { summary = true; generate = Some 7; profile = Some Be64; mode = None; verify = false })
unfolding options uses_of with_uses
three_options = refl

option_twice : options_of (codes "--generate=1" ∷ codes "--generate" ∷ codes "2" ∷ []) ≡ None
unfolding options uses_of with_uses
option_twice = refl

number_with_a_sign : options_of (codes "--generate" ∷ codes "+1" ∷ []) ≡ None
unfolding options uses_of with_uses
number_with_a_sign = refl

-- a mode stands beside a profile alone
mode_and_profile : options_of (codes "--needs" ∷ codes "--profile" ∷ codes "be64" ∷ []) ≡ Some (record { summary = false; generate = None; profile = Some Be64; mode = Some Needs; verify = false })
unfolding options uses_of with_uses
mode_and_profile = refl

matrix_alone : options_of (codes "--matrix" ∷ []) ≡ Some (record { summary = false; generate = None; profile = None; mode = Some Matrix; verify = false })
unfolding options uses_of with_uses
matrix_alone = refl

mode_and_summary : options_of (codes "--summary" ∷ codes "--needs" ∷ []) ≡ None
unfolding options uses_of with_uses
mode_and_summary = refl

mode_twice : options_of (codes "--needs" ∷ codes "--needs" ∷ []) ≡ None
unfolding options uses_of with_uses
mode_twice = refl

two_modes : options_of (codes "--needs" ∷ codes "--matrix" ∷ []) ≡ None
unfolding options uses_of with_uses
two_modes = refl
