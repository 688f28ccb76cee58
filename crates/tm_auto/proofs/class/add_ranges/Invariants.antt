use Rattle.std.proofs.Common.{◌-◌, ◌≤◌}
use Rattle.tm_auto.specs.Classes.{AreRanges}
use Rattle.tm_auto.proofs.class.add_ranges.Given as goal

abbrev pub invariant-loop-at : goal.invariant-loop-at
invariant-loop-at l = record { most : l.at ≤ 256; ranges : AreRanges l.src l.dst l.at l.symbols }

abbrev pub decreases-loop-at : goal.decreases-loop-at
decreases-loop-at l = 256 - l.at
