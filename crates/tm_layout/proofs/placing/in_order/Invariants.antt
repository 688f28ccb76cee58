use Rattle.std.proofs.Common.{◌≡◌, ◌+◌, ◌++◌, map, drop}
use Rattle.tm_base.specs.Layout.{places}
use Rattle.tm_layout.specs.Capped.{capped}
use Rattle.tm_layout.specs.Reckoned.{layouts_in}
use Rattle.tm_layout.proofs.placing.in_order.Given as goal

-- the places found, and those of the fields that are left, are all
abbrev pub invariant-loop-field : goal.invariant-loop-field
invariant-loop-field l =
    l.found ++ map (λ place. capped (l.begin + place)) (places l.packed l.end (layouts_in (drop l.field-index l.fields)))
    ≡ map (λ place. capped (l.fn.begin + place)) (places l.fn.packed l.fn.at (layouts_in l.fn.fields))
