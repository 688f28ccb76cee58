use Rattle.std.proofs.Common.{◌≡◌, take}
use Rattle.tm_ground.proofs.worlds.copied_defs.Given as goal

-- the copies made so far are of the first ones
abbrev pub invariant-loop-def : goal.invariant-loop-def
invariant-loop-def l = l.copies ≡ take l.def-index l.defs
