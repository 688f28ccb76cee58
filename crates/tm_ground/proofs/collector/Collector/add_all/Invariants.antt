use Rattle.std.proofs.Common.{map, drop}
use Rattle.tm_ground.specs.Closed.{put_in}
use Rattle.tm_ground.specs.Sets.{closed_types}
use Rattle.tm_ground.proofs.finding.SeeingLemmas.{GoesOn}
use Rattle.tm_ground.proofs.collector.Collector.add_all.Given as goal

abbrev pub invariant-loop-item : goal.invariant-loop-item
invariant-loop-item l =
    GoesOn l.initial.self (map (put_in l.regions (closed_types l.args)) l.types) l.self (map (put_in l.regions (closed_types l.args)) (drop l.item-index l.types))
