use Rattle.std.proofs.Common.{◌≡◌, ◌++◌, take}
use Rattle.tm_layout.specs.Reached.{types_at}
use Rattle.tm_layout.proofs.reached.add_types.Given as goal

-- the first types are added
abbrev pub invariant-loop-g : goal.invariant-loop-g
invariant-loop-g l = types_at l.types.items ≡ types_at l.initial.types.items ++ take l.g-index l.more
