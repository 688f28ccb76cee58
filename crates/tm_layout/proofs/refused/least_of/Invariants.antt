use Rattle.std.proofs.Common.{take}
use Rattle.tm_base.specs.Worlds.{tables_of}
use Rattle.tm_layout.specs.Least.{IsLeastAnswer}
use Rattle.tm_layout.specs.Reached.{types_at}
use Rattle.tm_layout.proofs.SeenLemmas.{AreSeen}
use Rattle.tm_layout.proofs.refused.least_of.Given as goal

-- of the first types it is the least, and those that are marked are among them
abbrev pub invariant-loop-g : goal.invariant-loop-g
invariant-loop-g l =
    IsLeastAnswer (tables_of l.world) (take l.g-index (types_at l.types)) l.least × AreSeen l.world l.seen.items (take l.g-index (types_at l.types))
