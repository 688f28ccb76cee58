use Rattle.tm_ground.proofs.finding.ClosingLemmas.{IsClosing}
use Rattle.tm_ground.proofs.collector.Collector.close.Given as goal

abbrev pub invariant-loop-place : goal.invariant-loop-place
invariant-loop-place l = IsClosing l.resolved l.place l.self
