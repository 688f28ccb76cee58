use Rattle.std.proofs.Common.{◌≡◌, ◌++◌, drop}
use Rattle.tm_auto.specs.Classes.{references_of}
use Rattle.tm_auto.proofs.class.add_references.Given as goal

abbrev pub invariant-loop-id : goal.invariant-loop-id
invariant-loop-id l = l.symbols ++ references_of l.labels (drop l.id-index l.id-items) ≡ l.initial.symbols ++ references_of l.labels l.id-items
