-- Sizes and weights as they are reckoned: what is above the greatest `u32` counts as that, and is too
-- large for a type in any case.
use Rattle.std.specs.Prelude.{ℕ, ◌-◌, ◌^◌, min, if◌then◌else◌, Option, None, is_some, nat_lt}
use Rattle.tm_base.specs.declared.answer.Why.{Why}
use Rattle.tm_base.specs.declared.answer.Why.TheVariants.{TooLarge}
use Rattle.tm_base.specs.Faults.{or_else, when}
use Rattle.tm_base.specs.Weight.{weight_limit}

-- the number, or the greatest `u32` where that is less
abbrev pub capped : ℕ → ℕ
capped n = min n (2 ^ 32 - 1)

-- the fault of a weight
abbrev pub weight_fault : ℕ → Option Why
weight_fault weight = when (nat_lt weight_limit weight) TooLarge

-- A type's first fault, of its own and of its layout's, the second asked only where no part has a cause.
abbrev pub first_fault : Option Why → Option Why → Option Why → Option Why
first_fault own below layout = or_else own (if is_some below then None else layout)
