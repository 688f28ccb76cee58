use Rattle.std.proofs.Common.{◌≡◌, not, drop}
use Rattle.std.specs.List.{list_any}
use Rattle.tm_base.specs.Integers.{fits_signed}
use Rattle.tm_layout.proofs.faults.passes_i32.Given as goal

-- each discriminant of the first variants is an `i32`
abbrev pub invariant-loop-variant : goal.invariant-loop-variant
invariant-loop-variant l = list_any (λ v. not (fits_signed 4 v.value)) (drop l.variant-index l.variants) ≡ list_any (λ v. not (fits_signed 4 v.value)) l.fn.variants
