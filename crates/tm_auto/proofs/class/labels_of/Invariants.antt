use Rattle.std.proofs.Common.{◌≡◌, ◌++◌, drop}
use Rattle.tm_auto.specs.Classes.{labels_from}
use Rattle.tm_auto.proofs.class.labels_of.Given as goal

abbrev pub invariant-loop-state : goal.invariant-loop-state
invariant-loop-state l = l.labels.items ++ labels_from l.auto'.edges (drop l.state-index l.state-items) ≡ labels_from l.auto'.edges l.state-items
