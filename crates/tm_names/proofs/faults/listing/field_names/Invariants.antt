use Rattle.std.proofs.Common.{◌≡◌, ◌++◌, drop}
use Rattle.std.specs.List.{flat_map}
use Rattle.std.specs.Option.{option_to_list}
use Rattle.tm_names.specs.Faults.{field_names}
use Rattle.tm_names.proofs.faults.listing.field_names.Given as goal

abbrev pub invariant-loop-field : goal.invariant-loop-field
invariant-loop-field l =
    l.names ++ flat_map (λ field. option_to_list field.name) (drop l.field-index l.field-items) ≡ field_names l.fn.variant
