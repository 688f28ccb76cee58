use Rattle.std.proofs.Common.{◌≡◌, [], drop}
use Rattle.tm_auto.specs.Classes.{with_ids}
use Rattle.tm_auto.proofs.class.ids_of.Given as goal

abbrev pub invariant-loop-label : goal.invariant-loop-label
invariant-loop-label l = with_ids (drop l.label-index l.labels) l.ids ≡ with_ids l.labels []
