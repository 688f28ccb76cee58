-- The number of a set of assumptions, by which sets are ordered: this project's.
use Rattle.std.specs.Prelude.{ℕ, ◌+◌, ◌*◌, Bool, true, false}
use Rattle.tm_base.specs.declared.assume.Assume.{Assume}

-- what a flag counts: 1 where it is there
abbrev pub flag : Bool → ℕ
flag true = 1
flag false = 0

abbrev pub number_of : Assume → ℕ
number_of a = flag a.alignment + 2 * flag a.lifetimes + 4 * flag a.safety + 8 * flag a.validity
