use Rattle.std.proofs.Common.{◌≡◌, drop}
use Rattle.tm_auto.specs.Classes.{passes_some}
use Rattle.tm_auto.proofs.class.passes_any.Given as goal

abbrev pub invariant-loop-label : goal.invariant-loop-label
invariant-loop-label l = passes_some (drop l.label-index l.labels) l.symbol ≡ passes_some l.labels l.symbol
