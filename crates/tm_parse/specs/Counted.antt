-- The same where limits are counted in a record, up to which is told with each.
use Rattle.std.specs.Prelude.{◌≡◌, List, [], ◌∷◌, ◌++◌}
use Rattle.tm_parse.specs.Accepted.{SpelledBy, NoFile}
use Rattle.tm_parse.specs.Counting.{Within, Beyond, count, none_yet}
use Rattle.tm_parse.specs.Events.{Event, terminals}
use Rattle.tm_parse.specs.Parts.{Outcome, Done, Stuck, Passed}
use Rattle.tm_parse.specs.declared.counts.Counts.{Counts}
use Rattle.tm_base.specs.declared.limit.LimitKind.{LimitKind}
use Rattle.tm_parse.specs.declared.parsed.Parsed.{Parsed}
use Rattle.tm_parse.specs.declared.terminal.Terminal.{Terminal}

-- some file begins with these terminals, and none of them passes a limit
pub record BeginsCounted (p : List Terminal) : Type 0 where
  pub value : Parsed
  pub front : List Event
  pub back : List Event
  pub after : Counts
  pub spelled : SpelledBy value (front ++ back)
  pub text : terminals front ≡ p
  pub within : count none_yet front ≡ Within after

-- some file goes on with this terminal behind these; it passes a limit, and none of these does
pub record PassesCounted (kind : LimitKind) (p : List Terminal) (t : Terminal) : Type 0 where
  pub value : Parsed
  pub front : List Event
  pub back : List Event
  pub others : List Terminal
  pub after : Counts
  pub spelled : SpelledBy value (front ++ back)
  pub text : terminals front ≡ p
  pub next : terminals back ≡ t ∷ others
  pub within : count none_yet front ≡ Within after
  pub passes : count after back ≡ Beyond kind back

-- these terminals spell the file, within the limits
pub record IsCountedFile (v : Parsed) (ts : List Terminal) (after : Counts) : Type 0 where
  pub events : List Event
  pub spelled : SpelledBy v events
  pub text : terminals events ≡ ts
  pub within : count none_yet events ≡ Within after

-- behind `p` stands the first terminal with which no file goes on
abbrev pub IsCountedFault : List Terminal → List Terminal → Type 0
IsCountedFault p rest = BeginsCounted p × NoFile p rest

-- an answer says what the list is
abbrev pub IsCountedAnswer : List Terminal → Outcome Parsed → Type 0
IsCountedAnswer ts (Done v after rest) = IsCountedFile v ts after × (rest ≡ [])
IsCountedAnswer ts (Stuck rest) = (p : List Terminal) × (ts ≡ p ++ rest) × IsCountedFault p rest
IsCountedAnswer ts (Passed kind rest) = (p : List Terminal) × (t : Terminal) × (others : List Terminal) × (rest ≡ t ∷ others) × (ts ≡ p ++ rest) × PassesCounted kind p t
