use Rattle.std.proofs.Common.{drop}
use Rattle.std.specs.List.{flat_map}
use Rattle.tm_ground.specs.Occurs.{asked_in, sides_of}
use Rattle.tm_ground.proofs.finding.SeeingLemmas.{GoesOn}
use Rattle.tm_ground.proofs.collector.Collector.add_asked.Given as goal

abbrev pub invariant-loop-ask : goal.invariant-loop-ask
invariant-loop-ask l = GoesOn l.initial.self (asked_in l.asks) l.self (flat_map sides_of (drop l.ask-index l.asks))
