-- What the steps of examining a file find: what is found is all that there is, and a fault is the only one.
use Rattle.std.specs.Prelude.{◌≡◌, ℕ, Some, None, Option, List, length, All, ⊤}
use Rattle.tm_base.specs.declared.limit.LimitKind.{LimitKind}
use Rattle.tm_base.specs.declared.limit.LimitKind.TheVariants.{NamedTypes, ClosedNodes, References, Depth, RefutationCells}
use Rattle.tm_base.specs.declared.world.World.{World}
use Rattle.tm_base.specs.Worlds.{tables_of}
use Rattle.tm_ground.specs.Belongs.{BelongsToFile}
use Rattle.tm_ground.specs.declared.fault.GroundErr.{GroundErr}
use Rattle.tm_ground.specs.declared.fault.GroundErr.TheVariants as ground_err
use Rattle.tm_lex.specs.Lexes.{IsFault, Tokenizes, IsPieceOf}
use Rattle.tm_lex.specs.declared.fault.LexWhy.{LexWhy}
use Rattle.tm_lex.specs.declared.fault.LexWhy.TheVariants as why
use Rattle.tm_lex.specs.declared.token.Token.{Token}
use Rattle.tm_names.specs.ApartNames.{HasApartNames}
use Rattle.tm_names.specs.InForm.{IsInForm}
use Rattle.tm_names.specs.Resolutions.{resolved_of}
use Rattle.tm_names.specs.Written.{name_at}
use Rattle.tm_names.specs.declared.resolved.Resolved.{Resolved}
use Rattle.tm_parse.specs.Parsing.{PassesLimitAt, SpellsFile, StopsAt}
use Rattle.tm_parse.specs.Spelling.{terminals_of}
use Rattle.tm_parse.specs.declared.parsed.Parsed.{Parsed}
use Rattle.tm_refute.specs.declared.stop.RefuteErr.{RefuteErr}
use Rattle.tm_refute.specs.declared.stop.RefuteErr.TheVariants as refute_err
use Rattle.tm_report.specs.declared.fault.At.{At}
use Rattle.tm_report.specs.declared.fault.FileFault.{FileFault}
use Rattle.tm_report.specs.declared.fault.FileFault.TheVariants as fault
use Rattle.tm_run.specs.Asking.{with_questions}
use Rattle.tm_run.specs.Faults.{HasFault, LacksQuestion, PassesLimitOnTypes}
use Rattle.tm_run.specs.Files.{HasSoundNames, IsAccepted, IsAnswerable, IsLexed, IsResolved, IsTooLong}
use Rattle.tm_run.specs.Refutations.{IsPast, PassesCells}
use Rattle.tm_run.specs.Places.{at_byte}
use Rattle.tm_run.specs.Words.{profile_for}
use Rattle.tm_run.specs.declared.words.options.Mode.{Mode}
use Rattle.tm_run.specs.declared.words.options.Options.{Options}
use Rattle.tm_run.specs.declared.stop.Stop.{Stop}
use Rattle.tm_run.specs.declared.stop.Stop.TheVariants.{Fault, Memory}

-- the fault of a file whose refutation has too many cells
abbrev pub too_long : FileFault
too_long = fault.Passed RefutationCells None

-- the file's one fault; such a file isn't accepted
pub record IsOnlyFault (options : Options) (file : List ℕ) (fault : FileFault) : Type 0 where
  pub has : HasFault options file fault
  pub only : (other : FileFault) → HasFault options file other → other ≡ fault
  pub refused : ¬ IsAccepted options file

-- the file stops there; a want of memory may come for any
abbrev pub IsStop : Options → List ℕ → Stop → Type 0
IsStop options file (Fault fault) = IsOnlyFault options file fault
IsStop options file Memory = ⊤

-- the fault of a file in which no token begins at a place
abbrev pub no_token_at : At → LexWhy → FileFault
no_token_at at why.NoToken = fault.NoToken at
no_token_at at why.BadNumber = fault.BadNumber at
no_token_at at why.OpenComment = fault.OpenComment at

-- the fault of a file whose tokens stop at this one, or at the end
abbrev pub fault_at : List ℕ → Option Token → FileFault
fault_at file None = fault.EndOfFile (at_byte file (length file))
fault_at file (Some token) = fault.Unexpected (at_byte file token.start)

-- the file's tokens, each a piece of it
pub record AreTokensOf (file : List ℕ) (tokens : List Token) : Type 0 where
  pub lexed : IsLexed file tokens
  pub only : (others : List Token) → Tokenizes file others → others ≡ tokens
  pub faultless : (byte : ℕ) (why : LexWhy) → IsFault file byte why → ⊥
  pub pieces : All (IsPieceOf file) tokens

-- what the file spells
pub record IsParsedOf (file : List ℕ) (tokens : List Token) (parsed : Parsed) : Type 0 where
  pub tokens_are : AreTokensOf file tokens
  pub spelled : SpellsFile (terminals_of file tokens) parsed
  pub only : (other : Parsed) → SpellsFile (terminals_of file tokens) other → other ≡ parsed
  pub goes_on : (place : ℕ) → StopsAt (terminals_of file tokens) place → ⊥
  pub within : (kind : LimitKind) (place : ℕ) → PassesLimitAt (terminals_of file tokens) kind place → ⊥

-- what the file's names mean, where none is at fault
pub record IsResolvedOf (options : Options) (file : List ℕ) (tokens : List Token) (parsed : Parsed) (resolved : Resolved) : Type 0 where
  pub sound : HasSoundNames options file tokens parsed
  pub means : resolved ≡ with_questions options.mode parsed (resolved_of (profile_for options) (name_at file tokens) parsed)

-- a fault that is told when the types are closed, or behind that
abbrev pub IsLateFault : Options → List ℕ → FileFault → Type 0
IsLateFault options file (fault.Passed kind None) = PassesLimitOnTypes options file kind
IsLateFault options file (fault.NoQuestion number) = LacksQuestion options file number
IsLateFault options file _ = ⊥

-- what the file's names mean, beside which it has no fault before its types are closed
pub record IsMeaningOf (options : Options) (file : List ℕ) (resolved : Resolved) : Type 0 where
  pub names : IsResolved options file resolved
  pub only : (other : Resolved) → IsResolved options file other → other ≡ resolved
  pub faultless : (fault : FileFault) → HasFault options file fault → IsLateFault options file fault

-- how a file stops whose types can't be closed
abbrev pub stop_of : GroundErr → Stop
stop_of ground_err.TooManyTypes = Fault (fault.Passed NamedTypes None)
stop_of ground_err.TooManyNodes = Fault (fault.Passed ClosedNodes None)
stop_of ground_err.TooManyRefs = Fault (fault.Passed References None)
stop_of ground_err.TooDeep = Fault (fault.Passed Depth None)
stop_of ground_err.Memory = Memory

-- how it stops where a question isn't refuted
abbrev pub stop_of_refuting : RefuteErr → Stop
stop_of_refuting refute_err.TooLong = Fault too_long
stop_of_refuting refute_err.Memory = Memory

-- the world of a file, which has no fault but that a refutation may be too long; what its names mean is in form, and
-- definitions have names of their own
pub record IsExamined (options : Options) (file : List ℕ) (world : World) : Type 0 where
  pub resolved : Resolved
  pub answerable : IsAnswerable options file resolved
  pub belongs : BelongsToFile resolved world
  pub form : IsInForm resolved
  pub apart : HasApartNames resolved
  pub only : (other : Resolved) → IsResolved options file other → other ≡ resolved
  pub faultless : (other : FileFault) → HasFault options file other → IsTooLong options resolved × (other ≡ too_long)

-- the refutation of a question isn't written: it is too long, or memory is wanting
abbrev pub IsRefutationStop : ℕ → World → Stop → Type 0
IsRefutationStop number world (Fault fault) = IsPast (tables_of world) world.questions number × (fault ≡ too_long)
IsRefutationStop number world Memory = ⊤

-- so it is of what is asked of a world
abbrev pub IsReportStop : Option Mode → World → Stop → Type 0
IsReportStop mode world (Fault fault) = PassesCells mode world × (fault ≡ too_long)
IsReportStop mode world Memory = ⊤
