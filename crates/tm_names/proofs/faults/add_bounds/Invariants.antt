use Rattle.std.proofs.Common.{◌≡◌, ◌++◌, drop}
use Rattle.std.specs.List.{flat_map}
use Rattle.tm_names.specs.Scopes.{bound_mentions}
use Rattle.tm_names.proofs.faults.add_bounds.Given as goal

abbrev pub invariant-loop-bound : goal.invariant-loop-bound
invariant-loop-bound l =
    l.found ++ flat_map bound_mentions (drop l.bound-index l.bounds) ≡ l.initial.found ++ flat_map bound_mentions l.fn.bounds
