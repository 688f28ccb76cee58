use Rattle.std.proofs.Common.{◌≡◌, take}
use Rattle.tm_ground.proofs.worlds.copied_bounds.Given as goal

-- the copies made so far are of the first ones
abbrev pub invariant-loop-bound : goal.invariant-loop-bound
invariant-loop-bound l = l.copies ≡ take l.bound-index l.bounds
