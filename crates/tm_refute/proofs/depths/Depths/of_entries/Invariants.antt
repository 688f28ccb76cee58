use Rattle.std.proofs.Common.{take}
use Rattle.tm_refute.specs.Depths.{AreDepthsOf}
use Rattle.tm_refute.proofs.depths.Depths.of_entries.Given as goal

-- the least depths of the entries so far
abbrev pub invariant-loop-entry : goal.invariant-loop-entry
invariant-loop-entry l = AreDepthsOf (take l.entry-index l.entries) l.depths
