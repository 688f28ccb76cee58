-- What a list of terminals is by the grammar: a file within the limits, or one that stops at its first
-- hopeless terminal or at the first that passes a limit.
use Rattle.std.specs.Prelude.{◌≡◌, ℕ, List, [], ◌∷◌, ◌++◌}
use Rattle.tm_parse.specs.Events.{Event, terminals}
use Rattle.tm_parse.specs.Files.{file}
use Rattle.tm_parse.specs.Counting.{none_yet}
use Rattle.tm_parse.specs.Limits.{IsFirstPassed, IsWithin}
use Rattle.tm_parse.specs.Parts.{Outcome, Done, Stuck, Passed}
use Rattle.tm_base.specs.declared.limit.LimitKind.{LimitKind}
use Rattle.tm_parse.specs.declared.counts.Counts.{Counts}
use Rattle.tm_parse.specs.declared.parsed.Parsed.{Parsed}
use Rattle.tm_parse.specs.declared.terminal.Terminal.{Terminal}

-- these events spell the file
pub record SpelledBy (v : Parsed) (e : List Event) : Type 0 where
  pub levels : ℕ
  pub spelled : (file levels).spells v e

-- some file begins with these terminals, and none of them passes a limit
pub record BeginsWithin (p : List Terminal) : Type 0 where
  pub value : Parsed
  pub front : List Event
  pub back : List Event
  pub spelled : SpelledBy value (front ++ back)
  pub text : terminals front ≡ p
  pub within : IsWithin front

-- some file goes on with this terminal behind these; with it a limit is passed, and none is before it
pub record PassesAt (kind : LimitKind) (p : List Terminal) (t : Terminal) : Type 0 where
  pub value : Parsed
  pub front : List Event
  pub event : Event
  pub back : List Event
  pub others : List Terminal
  pub spelled : SpelledBy value (front ++ (event ∷ back))
  pub text : terminals front ≡ p
  pub next : terminals (event ∷ back) ≡ t ∷ others
  pub passes : IsFirstPassed kind front event

-- some file begins with these terminals
pub record Begins (p : List Terminal) : Type 0 where
  pub value : Parsed
  pub events : List Event
  pub others : List Terminal
  pub spelled : SpelledBy value events
  pub text : terminals events ≡ p ++ others

-- no file begins with these terminals and the next; where there is no next, these are no file
abbrev pub NoFile : List Terminal → List Terminal → Type 0
NoFile p [] = (v : Parsed) (e : List Event) → SpelledBy v e → terminals e ≡ p → ⊥
NoFile p (t ∷ rest) = Begins (p ++ (t ∷ [])) → ⊥

-- these terminals spell the file, within the limits
pub record IsFile (v : Parsed) (ts : List Terminal) : Type 0 where
  pub events : List Event
  pub spelled : SpelledBy v events
  pub text : terminals events ≡ ts
  pub within : IsWithin events

-- behind `p` stands the first terminal with which no file goes on
abbrev pub IsFaultAt : List Terminal → List Terminal → Type 0
IsFaultAt p rest = BeginsWithin p × NoFile p rest

-- what a list of terminals is answered: nothing may be left
abbrev pub whole : Outcome Parsed → Outcome Parsed
whole (Done v after []) = Done v after []
whole (Done v after (t ∷ ts)) = Stuck (t ∷ ts)
whole (Stuck ts) = Stuck ts
whole (Passed kind ts) = Passed kind ts

unfoldable pub answer_of : List Terminal → Outcome Parsed
answer_of ts = whole ((file 0).read none_yet ts)

-- an answer says what the list is
abbrev pub IsAnswer : List Terminal → Outcome Parsed → Type 0
IsAnswer ts (Done v after rest) = IsFile v ts × (rest ≡ [])
IsAnswer ts (Stuck rest) = (p : List Terminal) × (ts ≡ p ++ rest) × IsFaultAt p rest
IsAnswer ts (Passed kind rest) = (p : List Terminal) × (t : Terminal) × (others : List Terminal) × (rest ≡ t ∷ others) × (ts ≡ p ++ rest) × PassesAt kind p t

-- the list is answered with the file
abbrev pub IsReadAs : Parsed → List Terminal → Type 0
IsReadAs v ts = (after : Counts) × (answer_of ts ≡ Done v after [])

-- the list is answered by stopping before the rest
abbrev pub StopsBefore : List Terminal → List Terminal → Type 0
StopsBefore p rest = answer_of (p ++ rest) ≡ Stuck rest

-- it is answered by a limit of this kind, at the terminal
abbrev pub StopsAtLimit : LimitKind → List Terminal → Terminal → List Terminal → Type 0
StopsAtLimit kind p t rest = answer_of (p ++ t ∷ rest) ≡ Passed kind (t ∷ rest)

-- whatever file the terminals spell, it is this one
abbrev pub IsOnlyFile : Parsed → List Terminal → Type 0
IsOnlyFile v ts = (w : Parsed) (e : List Event) → SpelledBy w e → terminals e ≡ ts → v ≡ w
