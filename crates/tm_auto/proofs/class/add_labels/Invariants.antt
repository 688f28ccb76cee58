use Rattle.std.proofs.Common.{◌≡◌, ◌++◌, drop}
use Rattle.tm_auto.specs.Classes.{labels_in}
use Rattle.tm_auto.proofs.class.add_labels.Given as goal

abbrev pub invariant-loop-edge : goal.invariant-loop-edge
invariant-loop-edge l = l.labels.items ++ labels_in (drop l.edge-index l.edges) ≡ l.initial.labels.items ++ labels_in l.edges
