use Rattle.std.proofs.Common.{◌≡◌, drop}
use Rattle.std.specs.List.{list_any}
use Rattle.std.specs.Ordering.{int_eq}
use Rattle.tm_names.specs.Values.{int_of}
use Rattle.tm_names.proofs.faults.ranges.is_wrong.Given as goal

abbrev pub invariant-loop-other : goal.invariant-loop-other
invariant-loop-other l =
    list_any (λ other. int_eq (int_of other) (int_of l.value)) (drop l.other-index l.before) ≡ list_any (λ other. int_eq (int_of other) (int_of l.fn.value)) l.fn.before
