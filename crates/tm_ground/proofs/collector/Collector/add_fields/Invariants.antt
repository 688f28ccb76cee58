use Rattle.std.proofs.Common.{map, drop}
use Rattle.std.specs.List.{flat_map}
use Rattle.tm_ground.specs.Closed.{put_in}
use Rattle.tm_ground.specs.Occurs.{all_fields}
use Rattle.tm_ground.specs.Sets.{closed_types}
use Rattle.tm_ground.proofs.finding.SeeingLemmas.{GoesOn}
use Rattle.tm_ground.proofs.collector.Collector.add_fields.Given as goal

abbrev pub invariant-loop-types : goal.invariant-loop-types
invariant-loop-types l =
    GoesOn l.initial.self (all_fields l.regions (closed_types l.args) l.variants) l.self (flat_map (λ ts. map (put_in l.regions (closed_types l.args)) ts) (drop l.types-index l.variants))
