use Rattle.std.proofs.Common.{◌≡◌, length}
use Rattle.tm_ground.specs.Depths.{TellDepths}
use Rattle.tm_ground.proofs.depth.Depths.of.Given as goal

-- there are so many tables, and they tell as many depths
abbrev pub invariant-loop-number : goal.invariant-loop-number
invariant-loop-number l = (length l.depths.tables ≡ l.number) × TellDepths l.named l.number l.depths.tables
