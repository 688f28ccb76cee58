use Rattle.std.proofs.Common.{◌≡◌, ◌++◌, drop}
use Rattle.std.specs.List.{flat_map}
use Rattle.std.specs.Option.{option_to_list}
use Rattle.tm_names.specs.Faults.{variant_names}
use Rattle.tm_names.proofs.faults.listing.variant_names.Given as goal

abbrev pub invariant-loop-variant : goal.invariant-loop-variant
invariant-loop-variant l =
    l.names ++ flat_map (λ v. option_to_list v.name) (drop l.variant-index l.variant-items) ≡ variant_names l.fn.decl
