-- The cause of an error: the first fault of the file under the profile, at one of its tokens. A want of memory may come for any.
use Rattle.std.specs.Prelude.{ℕ, ◌<◌, List, length, ⊤}
use Rattle.tm_base.specs.declared.profile.Profile.{Profile}
use Rattle.tm_lex.specs.declared.token.Token.{Token}
use Rattle.tm_names.specs.declared.fault.NameErr.{NameErr}
use Rattle.tm_names.specs.declared.fault.NameErr.TheVariants.{Fault, Memory}
use Rattle.tm_names.specs.Faults.{IsFirstFault}
use Rattle.tm_parse.specs.declared.parsed.Parsed.{Parsed}

abbrev pub HasCause : Profile → (ℕ → List ℕ) → Parsed → NameErr → Type 0
HasCause profile name file (Fault why place) = IsFirstFault profile name file why place
HasCause profile name file Memory = ⊤

-- a fault stands at one of the tokens
abbrev pub IsPlaceOf : List Token → NameErr → Type 0
IsPlaceOf tokens (Fault why place) = place < length tokens
IsPlaceOf tokens Memory = ⊤
