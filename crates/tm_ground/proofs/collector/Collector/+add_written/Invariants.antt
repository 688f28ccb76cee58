use Rattle.std.proofs.Common.{◌+◌, ◌*◌, drop}
use Rattle.tm_ground.specs.Sets.{closed_types}
use Rattle.tm_ground.proofs.finding.SeeingLemmas.{GoesOn}
use Rattle.tm_ground.proofs.sizes.SizeLemmas.{size_of, sizes_of}
use Rattle.tm_ground.proofs.collector.Collector.+add_written.Given as goal

abbrev pub decreases-add_written : goal.decreases-add_written
decreases-add_written l = 2 * size_of l.ty.now

abbrev pub decreases-add_all_written : goal.decreases-add_all_written
decreases-add_all_written l = 2 * sizes_of l.types.now + 1

abbrev pub invariant-add_all_written-loop-item : goal.invariant-add_all_written-loop-item
invariant-add_all_written-loop-item l =
    GoesOn l.initial.self (closed_types l.types) l.self (closed_types (drop l.item-index l.types))
