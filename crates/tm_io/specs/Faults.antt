-- Counts of faults. Every source and sink has one: a number below 2 ^ 64 that never falls, and that
-- stays at 2 ^ 64 - 1 once it is there.
use Rattle.std.specs.Prelude.{◌≡◌, ℕ, ◌+◌, ◌-◌, ◌^◌, ◌<◌, ◌≤◌, ◌⊎◌, min, Result, OnOk, OnErr}

-- a fault was counted: the count is greater than before, or stands at its last value
abbrev pub Rose : ℕ → ℕ → Type 0
Rose before now = (before < now) ⊎ (now ≡ 2 ^ 64 - 1)

-- the count after one more fault
abbrev pub raised : ℕ → ℕ
raised count = min (count + 1) (2 ^ 64 - 1)

-- the result has its cause in the count: a success leaves it as it was, and a failure comes only where
-- a fault was counted
pub record HasCause {T E : Type 0} (before now : ℕ) (result : Result T E) : Type 0 where
  pub later : before ≤ now
  pub bounded : before < 2 ^ 64 → now < 2 ^ 64
  pub kept : OnOk result (now ≡ before)
  pub failed : OnErr result (Rose before now)
