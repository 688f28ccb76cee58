-- Why a file gets no report.
use Rattle.std.specs.Prelude.{◌≡◌, ℕ, ◌<◌, ◌≤◌, ◌⊎◌, true, Option, Some, None, List, length, slice_get, IsUtf8}
use Rattle.std.specs.Str.{IsValidUpTo}
use Rattle.tm_base.specs.declared.limit.LimitKind.{LimitKind}
use Rattle.tm_base.specs.declared.limit.LimitKind.TheVariants.{FileBytes, NamedTypes, ClosedNodes, References, Depth, RefutationCells, MatrixTypes}
use Rattle.tm_base.specs.declared.limit.NameWhy.{NameWhy}
use Rattle.tm_ground.specs.Limits.{HasCause, IsWithinLimits}
use Rattle.tm_ground.specs.declared.fault.GroundErr.TheVariants.{TooManyTypes, TooManyNodes, TooManyRefs, TooDeep}
use Rattle.tm_lex.specs.Lexes.{IsFault}
use Rattle.tm_lex.specs.declared.fault.LexWhy.{LexWhy}
use Rattle.tm_lex.specs.declared.fault.LexWhy.TheVariants as why
use Rattle.tm_lex.specs.declared.token.Token.{Token}
use Rattle.tm_names.specs.Faults.{IsFirstFault}
use Rattle.tm_names.specs.Written.{name_at}
use Rattle.tm_names.specs.declared.resolved.Resolved.{Resolved}
use Rattle.tm_parse.specs.Parsing.{PassesLimitAt, StopsAt}
use Rattle.tm_parse.specs.Spelling.{terminals_of}
use Rattle.tm_parse.specs.declared.parsed.Parsed.{Parsed}
use Rattle.tm_report.specs.declared.fault.FileFault.{FileFault}
use Rattle.tm_report.specs.declared.fault.FileFault.TheVariants.{NotUtf8, NoToken, BadNumber, OpenComment, Unexpected, EndOfFile, Passed, Names, BadRefutation, NoQuestion}
use Rattle.tm_run.specs.Asking.{is_no_question, number_asked, passes_mode}
use Rattle.tm_run.specs.Files.{file_bytes, IsLexed, IsResolved, IsSpelled, IsTooLong}
use Rattle.tm_run.specs.Places.{IsPlaceIn, at_byte}
use Rattle.tm_run.specs.Words.{profile_for}
use Rattle.tm_run.specs.declared.words.options.Options.{Options}
use Rattle.tm_run.specs.declared.status.Status.{Status}
use Rattle.tm_run.specs.declared.status.Status.TheVariants.{BadText, Limit, IllFormed, NoQuestion as NoSuchQuestion}

-- the file isn't UTF-8, and so many bytes are its longest front that is
pub record IsNotUtf8 (file : List ℕ) (byte : ℕ) : Type 0 where
  pub short : length file ≤ file_bytes
  pub broken : IsUtf8 file → ⊥
  pub front : IsValidUpTo file byte

-- neither white space nor a comment nor a token begins at the byte, the first of such
pub record LacksToken (file : List ℕ) (byte : ℕ) (why : LexWhy) : Type 0 where
  pub short : length file ≤ file_bytes
  pub utf8 : IsUtf8 file
  pub fault : IsFault file byte why

-- the token at a place in the list, counted from 0, begins at the byte
pub record BeginsAt (tokens : List Token) (place byte : ℕ) : Type 0 where
  pub token : Token
  pub is : slice_get tokens place ≡ Some token
  pub start : token.start ≡ byte

-- no file of the grammar goes on with the token that begins at the byte, the first of such
pub record StopsAtToken (file : List ℕ) (byte : ℕ) : Type 0 where
  pub tokens : List Token
  pub lexed : IsLexed file tokens
  pub place : ℕ
  pub begins : BeginsAt tokens place byte
  pub stops : StopsAt (terminals_of file tokens) place

-- the tokens begin a file of the grammar, and aren't one
pub record EndsTooSoon (file : List ℕ) : Type 0 where
  pub tokens : List Token
  pub lexed : IsLexed file tokens
  pub stops : StopsAt (terminals_of file tokens) (length tokens)

-- some file of the grammar goes on with the token that begins at the byte, the first that passes a limit
pub record PassesLimitAtToken (file : List ℕ) (kind : LimitKind) (byte : ℕ) : Type 0 where
  pub tokens : List Token
  pub lexed : IsLexed file tokens
  pub place : ℕ
  pub begins : BeginsAt tokens place byte
  pub passes : PassesLimitAt (terminals_of file tokens) kind place

-- where a token begins, and the end of the file where there is none
abbrev pub start_of : List ℕ → Option Token → ℕ
start_of file None = length file
start_of file (Some token) = token.start

-- the file is spelled, and its first name fault is of the kind and stands at the token that begins at the byte
pub record HasNameFaultAt (options : Options) (file : List ℕ) (why : NameWhy) (byte : ℕ) : Type 0 where
  pub parsed : Parsed
  pub spelled : IsSpelled file parsed
  pub place : ℕ
  pub first : IsFirstFault (profile_for options) (name_at file spelled.tokens) parsed why place
  pub begins : start_of file (slice_get spelled.tokens place) ≡ byte

-- of the limits on closed types, and behind them those on a matrix and on a refutation, the first that is passed is of
-- the kind
abbrev pub IsFirstLimit : Options → Resolved → LimitKind → Type 0
IsFirstLimit options resolved NamedTypes = HasCause resolved TooManyTypes
IsFirstLimit options resolved ClosedNodes = HasCause resolved TooManyNodes
IsFirstLimit options resolved References = HasCause resolved TooManyRefs
IsFirstLimit options resolved Depth = HasCause resolved TooDeep
IsFirstLimit options resolved RefutationCells = IsWithinLimits resolved × IsTooLong options resolved
IsFirstLimit options resolved MatrixTypes = IsWithinLimits resolved × (passes_mode options.mode (length resolved.asks) ≡ true)
IsFirstLimit options resolved _ = ⊥

-- the file is resolved, and the first limit that the types of its questions pass is of the kind
pub record PassesLimitOnTypes (options : Options) (file : List ℕ) (kind : LimitKind) : Type 0 where
  pub resolved : Resolved
  pub names : IsResolved options file resolved
  pub first : IsFirstLimit options resolved kind

-- the file is resolved, its closed types pass no limit, and the question of the number, which is asked of, isn't there
pub record LacksQuestion (options : Options) (file : List ℕ) (number : ℕ) : Type 0 where
  pub resolved : Resolved
  pub names : IsResolved options file resolved
  pub limits : IsWithinLimits resolved
  pub asked : number_asked options.mode ≡ Some number
  pub lacks : is_no_question number (length resolved.asks) ≡ true

-- for what is asked, the file has the fault, at its place
abbrev pub HasFault : Options → List ℕ → FileFault → Type 0
HasFault options file (NotUtf8 at) = IsPlaceIn file at × IsNotUtf8 file at.byte
HasFault options file (NoToken at) = IsPlaceIn file at × LacksToken file at.byte why.NoToken
HasFault options file (BadNumber at) = IsPlaceIn file at × LacksToken file at.byte why.BadNumber
HasFault options file (OpenComment at) = IsPlaceIn file at × LacksToken file at.byte why.OpenComment
HasFault options file (Unexpected at) = IsPlaceIn file at × StopsAtToken file at.byte
HasFault options file (EndOfFile at) = (at ≡ at_byte file (length file)) × EndsTooSoon file
HasFault options file (Passed kind None) = ((kind ≡ FileBytes) × (file_bytes < length file)) ⊎ PassesLimitOnTypes options file kind
HasFault options file (Passed kind (Some at)) = IsPlaceIn file at × PassesLimitAtToken file kind at.byte
HasFault options file (Names why at) = IsPlaceIn file at × HasNameFaultAt options file why at.byte
HasFault options file (NoQuestion number) = LacksQuestion options file number
-- a file has no such line: it stands in front of one
HasFault options file (BadRefutation line) = ⊥

abbrev pub status_of_fault : FileFault → Status
status_of_fault (NotUtf8 at) = BadText
status_of_fault (NoToken at) = BadText
status_of_fault (BadNumber at) = BadText
status_of_fault (OpenComment at) = BadText
status_of_fault (Unexpected at) = BadText
status_of_fault (EndOfFile at) = BadText
status_of_fault (Passed kind place) = Limit
status_of_fault (Names why at) = IllFormed
status_of_fault (BadRefutation line) = BadText
status_of_fault (NoQuestion number) = NoSuchQuestion

-- the file has a fault for which the run ends with the status
pub record IsFaulty (options : Options) (file : List ℕ) (status : Status) : Type 0 where
  pub fault : FileFault
  pub has : HasFault options file fault
  pub status_is : status_of_fault fault ≡ status
