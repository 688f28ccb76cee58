use Rattle.std.proofs.Common.{◌≡◌, drop, map}
use Rattle.std.specs.List.{fold}
use Rattle.tm_names.specs.Representations.{items_of}
use Rattle.tm_names.specs.Resolutions.{repr_of, with_item}
use Rattle.tm_names.proofs.resolving.reprs.repr.Given as goal

abbrev pub invariant-loop-placed : goal.invariant-loop-placed
invariant-loop-placed l =
    fold with_item l.found (map (λ repr. repr.item) (drop l.placed-index l.placed-items)) ≡ repr_of (items_of l.fn.decl)
