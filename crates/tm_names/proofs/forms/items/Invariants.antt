use Rattle.std.proofs.Common.{◌≡◌, ◌++◌, drop, map}
use Rattle.tm_names.specs.Representations.{items_of}
use Rattle.tm_names.proofs.forms.items.Given as goal

abbrev pub invariant-loop-repr : goal.invariant-loop-repr
invariant-loop-repr l =
    l.items ++ map (λ repr. repr.item) (drop l.repr-index l.repr-items) ≡ items_of l.fn.decl
