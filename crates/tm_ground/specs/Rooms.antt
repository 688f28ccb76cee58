-- What is left of a number of nodes.
use Rattle.std.specs.Prelude.{ℕ, ◌-◌, nat_le, Option, Some, None, if◌then◌else◌}

-- what is left of so many behind others; none where the others are more
abbrev pub left_after : ℕ → ℕ → Option ℕ
left_after room n = if nat_le n room then Some (room - n) else None
