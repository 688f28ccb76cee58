use Rattle.std.proofs.Common.{◌≡◌, ◌++◌, drop}
use Rattle.tm_auto.specs.Builds.{edges_by}
use Rattle.tm_auto.proofs.build.leave.Given as goal

abbrev pub invariant-loop-way : goal.invariant-loop-way
invariant-loop-way l = l.edges.items ++ edges_by l.from (drop l.way-index l.ways) ≡ l.initial.edges.items ++ edges_by l.from l.ways
