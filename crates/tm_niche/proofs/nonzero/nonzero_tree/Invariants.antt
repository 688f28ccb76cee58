use Rattle.std.proofs.Common.{◌≡◌, ◌++◌, ◌-◌}
use Rattle.tm_niche.specs.Forms.{nonzero_ways}
use Rattle.tm_niche.proofs.nonzero.nonzero_tree.Given as goal

abbrev pub invariant-loop-before : goal.invariant-loop-before
invariant-loop-before l = l.ways ++ nonzero_ways l.before (l.size - l.before) ≡ nonzero_ways 0 l.size
