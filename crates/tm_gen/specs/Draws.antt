-- A stream of numbers: the linear congruential generator with the factor and the summand of Knuth's MMIX,
-- of whose 64 bits the upper 31 are used.
use Rattle.std.specs.Prelude.{ℕ, ◌+◌, ◌*◌, ◌/◌, ◌%◌, ◌^◌}

-- the state behind a draw
abbrev pub next : ℕ → ℕ
next x = (x * 6364136223846793005 + 1442695040888963407) % 2 ^ 64

-- what a draw from a state answers, below n
abbrev pub drawn : ℕ → ℕ → ℕ
drawn x n = next x / 2 ^ 33 % n
