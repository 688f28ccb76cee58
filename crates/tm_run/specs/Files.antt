-- Question files: the bytes that are UTF-8, lex, spell a file of the grammar, have no name at fault, and lead
-- to closed types within their limits.
use Rattle.std.specs.Prelude.{◌≡◌, ℕ, ◌≤◌, false, List, length, IsUtf8}
use Rattle.tm_base.specs.declared.limit.LimitKind.TheVariants.{FileBytes}
use Rattle.tm_base.specs.declared.world.World.{World}
use Rattle.tm_base.specs.Limits.{limit_number}
use Rattle.tm_ground.specs.Belongs.{BelongsToFile}
use Rattle.tm_ground.specs.Limits.{IsWithinLimits}
use Rattle.tm_lex.specs.Lexes.{Tokenizes}
use Rattle.tm_lex.specs.declared.token.Token.{Token}
use Rattle.tm_names.specs.Faults.{HasNoFault}
use Rattle.tm_names.specs.Resolutions.{resolved_of}
use Rattle.tm_names.specs.Written.{name_at}
use Rattle.tm_names.specs.declared.resolved.Resolved.{Resolved}
use Rattle.tm_parse.specs.Parsing.{SpellsFile}
use Rattle.tm_parse.specs.Spelling.{terminals_of}
use Rattle.tm_parse.specs.declared.parsed.Parsed.{Parsed}
use Rattle.tm_run.specs.Asking.{lacks_question, number_asked, passes_mode, with_questions}
use Rattle.tm_run.specs.Refutations.{PassesCells}
use Rattle.tm_run.specs.Words.{profile_for}
use Rattle.tm_run.specs.declared.words.options.Options.{Options}

-- the greatest number of bytes that a file has
abbrev pub file_bytes : ℕ
file_bytes = limit_number FileBytes

-- the file isn't too long, it is UTF-8, and these are its tokens
pub record IsLexed (file : List ℕ) (tokens : List Token) : Type 0 where
  pub short : length file ≤ file_bytes
  pub utf8 : IsUtf8 file
  pub tokenizes : Tokenizes file tokens

-- the file's tokens spell this by the grammar, within its limits
pub record IsSpelled (file : List ℕ) (parsed : Parsed) : Type 0 where
  pub tokens : List Token
  pub lexed : IsLexed file tokens
  pub spelled : SpellsFile (terminals_of file tokens) parsed

-- for the profile, no name in what the file's tokens spell is at fault
abbrev pub HasSoundNames : Options → List ℕ → List Token → Parsed → Type 0
HasSoundNames options file tokens parsed = HasNoFault (profile_for options) (name_at file tokens) parsed

-- the file is spelled, for the profile none of its names is at fault, and this is what its names mean, with the
-- mode's questions in place of the file's where it has its own
pub record IsResolved (options : Options) (file : List ℕ) (resolved : Resolved) : Type 0 where
  pub parsed : Parsed
  pub spelled : IsSpelled file parsed
  pub sound : HasSoundNames options file spelled.tokens parsed
  pub means : resolved ≡ with_questions options.mode parsed (resolved_of (profile_for options) (name_at file spelled.tokens) parsed)

-- of some world that belongs to what names mean, the refutation that is asked for has too many cells
pub record IsTooLong (options : Options) (resolved : Resolved) : Type 0 where
  pub world : World
  pub belongs : BelongsToFile resolved world
  pub passes : PassesCells options.mode world

-- the file is resolved, the closed types that its questions lead to pass no limit, the questions aren't more than the
-- mode takes, and there is the one that it asks of
pub record IsAnswerable (options : Options) (file : List ℕ) (resolved : Resolved) : Type 0 where
  pub names : IsResolved options file resolved
  pub limits : IsWithinLimits resolved
  pub few : passes_mode options.mode (length resolved.asks) ≡ false
  pub asked : lacks_question (number_asked options.mode) (length resolved.asks) ≡ false

-- the file is that, and a refutation that is asked for isn't too long
pub record IsAccepted (options : Options) (file : List ℕ) : Type 0 where
  pub resolved : Resolved
  pub answerable : IsAnswerable options file resolved
  pub short : ¬ IsTooLong options resolved

-- the file is accepted, and the world belongs to it and to what is asked
pub record IsWorldOf (options : Options) (file : List ℕ) (world : World) : Type 0 where
  pub resolved : Resolved
  pub answerable : IsAnswerable options file resolved
  pub short : ¬ IsTooLong options resolved
  pub belongs : BelongsToFile resolved world
