use Rattle.std.proofs.Common.{◌≡◌, ◌++◌, take}
use Rattle.std.specs.List.{flat_map}
use Rattle.tm_layout.specs.Reached.{types_at}
use Rattle.tm_layout.proofs.reached.add_fields.Given as goal

-- the types of the first variants are added
abbrev pub invariant-loop-variant : goal.invariant-loop-variant
invariant-loop-variant l = types_at l.types.items ≡ types_at l.initial.types.items ++ flat_map (λ types. types) (take l.variant-index l.variant-items)
