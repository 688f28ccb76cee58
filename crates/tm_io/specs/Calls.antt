-- The calls of a device that fails when it is told to. They are numbered from 1, and a call's number stays
-- at 2 ^ 64 - 1 once it is there.
use Rattle.std.specs.Prelude.{ℕ, ◌+◌, ◌-◌, ◌^◌, List, Contains, min}

-- the number of the next call, and the numbers of the calls that fail
pub record Calls : Type 0 where
  pub next : ℕ
  pub failing : List ℕ

-- no call yet, and these are to fail
abbrev pub first_call : List ℕ → Calls
first_call failing = record { next = 1; failing = failing }

-- one call more
abbrev pub after_call : Calls → Calls
after_call calls = record { next = min (calls.next + 1) (2 ^ 64 - 1); failing = calls.failing }

-- the next call is one that fails
abbrev pub IsNextFailing : Calls → Type 0
IsNextFailing calls = Contains calls.failing calls.next
