-- A part of a grammar: which events spell a value, and how a list of terminals is read with one place
-- of look-ahead.
use Rattle.std.specs.Prelude.{Bool, List, ◌++◌}
use Rattle.tm_parse.specs.Events.{Event, terminals}
use Rattle.tm_parse.specs.Counting.{Verdict, Within, Beyond}
use Rattle.tm_parse.specs.declared.class.Class.{Class}
use Rattle.tm_parse.specs.declared.counts.Counts.{Counts}
use Rattle.tm_base.specs.declared.limit.LimitKind.{LimitKind}
use Rattle.tm_parse.specs.declared.terminal.Terminal.{Terminal}

-- what reading comes to: a value and what is left, the terminals from one that doesn't go on, or those
-- from one that passes a limit
pub data Outcome (V : Type 0) : Type 0 where
  Done : V → Counts → List Terminal → Outcome V
  Stuck : List Terminal → Outcome V
  Passed : LimitKind → List Terminal → Outcome V

abbrev pub Reader : Type 0 → Type 0
Reader V = Counts → List Terminal → Outcome V

-- `first` begin it, `bars` would go on with it, and `empty` says that it may be nothing
pub record Part (V : Type 0) : Type 1 where
  pub spells : V → List Event → Type 0
  pub read : Reader V
  pub first : List Class
  pub bars : List Class
  pub empty : Bool

-- what reading comes to where the part is spelled, and the rest follows it
abbrev pub finish : {V : Type 0} → V → List Terminal → Verdict → Outcome V
finish v rest (Within after) = Done v after rest
finish v rest (Beyond kind left) = Passed kind (terminals left ++ rest)
