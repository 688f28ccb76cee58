use Rattle.std.proofs.Common.{◌≡◌, ◌++◌, map, drop}
use Rattle.tm_layout.specs.Capped.{capped}
use Rattle.tm_layout.specs.Placed.{variant_places_in}
use Rattle.tm_layout.specs.Reckoned.{variant_layouts_in}
use Rattle.tm_layout.proofs.placing.all_places.Given as goal

-- the places found, and those of the variants that are left, are all
abbrev pub invariant-loop-fields : goal.invariant-loop-fields
invariant-loop-fields l =
    l.found ++ map (λ ls. map capped (variant_places_in l.profile l.kind l.repr l.begin ls)) (variant_layouts_in (drop l.fields-index l.parts))
    ≡ map (λ ls. map capped (variant_places_in l.fn.profile l.fn.kind l.fn.repr l.fn.begin ls)) (variant_layouts_in l.fn.parts)
