use Rattle.std.proofs.Common.{◌≡◌, map, take, All}
use Rattle.tm_ground.specs.Sets.{closed_types}
use Rattle.tm_ground.specs.Texted.{type_of_texted, HasItsText}
use Rattle.tm_ground.proofs.ordering.with_texts.Given as goal

-- the first types are there, each with its text
abbrev pub invariant-loop-ty : goal.invariant-loop-ty
invariant-loop-ty l =
    (map type_of_texted l.all.items ≡ closed_types (take l.ty-index l.types)) × All (HasItsText (closed_types l.found.named) (closed_types l.found.refs) l.world) l.all.items
