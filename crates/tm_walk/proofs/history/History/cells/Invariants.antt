use Rattle.std.proofs.Common.{◌≡◌, ◌++◌, length, reverse}
use Rattle.tm_walk.specs.Ways.{newest_first, cells_to, LeadsBack}
use Rattle.tm_walk.proofs.history.History.cells.Given as goal

-- the cells so far stand behind those to which the way leads back
abbrev pub invariant-loop-ways : goal.invariant-loop-ways
invariant-loop-ways l = record {
  same : cells_to (newest_first l.older) l.at ++ reverse l.cells.items ≡ cells_to (newest_first l.initial.older) l.initial.at;
  leads : LeadsBack (newest_first l.older) l.at;
}

abbrev pub decreases-loop-ways : goal.decreases-loop-ways
decreases-loop-ways l = length l.older
