-- What a text's terminals are parsed to: the file that they spell, or the place of the terminal at which
-- they stop. Places count terminals, from 0.
use Rattle.std.specs.Prelude.{◌≡◌, ◌⊎◌, ℕ, ◌-◌, List, ◌∷◌, ◌++◌, length, MatchResult, Result, Ok, Err, ⊤}
use Rattle.tm_parse.specs.Accepted.{IsFile, IsFaultAt, PassesAt, answer_of}
use Rattle.tm_parse.specs.Parts.{Outcome, Done, Stuck, Passed}
use Rattle.tm_base.specs.declared.limit.LimitKind.{LimitKind}
use Rattle.tm_parse.specs.declared.parsed.Parsed.{Parsed}
use Rattle.tm_parse.specs.declared.parsing.ParseErr.{ParseErr}
use Rattle.tm_parse.specs.declared.parsing.ParseErr.TheVariants.{At, Limit, Memory}
use Rattle.tm_parse.specs.declared.terminal.Terminal.{Terminal}

-- the terminals spell the file within the limits
abbrev pub SpellsFile : List Terminal → Parsed → Type 0
SpellsFile ts v = IsFile v ts

-- The first terminals, as many as the place says, begin a file within the limits, and no file goes on with
-- the next; where there is no next, they are no file.
pub record StopsAt (ts : List Terminal) (place : ℕ) : Type 0 where
  pub front : List Terminal
  pub rest : List Terminal
  pub splits : ts ≡ front ++ rest
  pub long : length front ≡ place
  pub fault : IsFaultAt front rest

-- some file goes on with the terminal at the place, which is the first that passes a limit
pub record PassesLimitAt (ts : List Terminal) (kind : LimitKind) (place : ℕ) : Type 0 where
  pub front : List Terminal
  pub next : Terminal
  pub rest : List Terminal
  pub splits : ts ≡ front ++ (next ∷ rest)
  pub long : length front ≡ place
  pub passes : PassesAt kind front next

-- the error has its cause in the terminals; a want of memory may come for any
abbrev pub HasCause : List Terminal → ParseErr → Type 0
HasCause ts (At place) = StopsAt ts place
HasCause ts (Limit kind place) = PassesLimitAt ts kind place
HasCause ts Memory = ⊤

-- an answer as it is returned: what is left shows as the place of its first terminal
abbrev pub returned : List Terminal → Outcome Parsed → Result Parsed ParseErr
returned ts (Done v after rest) = Ok v
returned ts (Stuck rest) = Err (At (length ts - length rest))
returned ts (Passed kind rest) = Err (Limit kind (length ts - length rest))

-- the terminals' answer is returned, unless memory ran out
abbrev pub IsAnswered : List Terminal → Result Parsed ParseErr → Type 0
IsAnswered ts result = (result ≡ returned ts (answer_of ts)) ⊎ (result ≡ Err Memory)

-- the file is answered, unless memory ran out; and so is the error
abbrev pub AnswersFile : Parsed → Result Parsed ParseErr → Type 0
AnswersFile v result = MatchResult result (λ found. found ≡ v) (λ err. err ≡ Memory)

abbrev pub AnswersErr : ParseErr → Result Parsed ParseErr → Type 0
AnswersErr e result = MatchResult result (λ _. ⊥) (λ err. (err ≡ e) ⊎ (err ≡ Memory))
