use Rattle.std.proofs.Common.{◌≡◌, ◌+◌, ◌*◌, List, map, drop}
use Rattle.tm_base.specs.declared.definition.RegionId.{RegionId}
use Rattle.tm_ground.specs.Closed.{as_elements, nodes_in, put_in}
use Rattle.tm_ground.specs.Rooms.{left_after}
use Rattle.tm_ground.specs.Sets.{closed_types}
use Rattle.tm_ground.proofs.sizes.SizeLemmas.{size_of, sizes_of}
use Rattle.tm_ground.proofs.nodes.+left.Given as goal

-- an argument that is put in has no arguments put in
abbrev pub decreases-left : goal.decreases-left
decreases-left l = 2 * (size_of l.written.now + sizes_of l.args.now)

abbrev pub decreases-all_left : goal.decreases-all_left
decreases-all_left l = 2 * (sizes_of l.types.now + sizes_of l.args.now) + 1

-- what is left behind the first types is left for the others
abbrev pub invariant-all_left-loop-item : goal.invariant-all_left-loop-item
invariant-all_left-loop-item l =
    (regions : List RegionId) → left_after l.room (nodes_in (as_elements (map (put_in regions (closed_types l.args)) (drop l.item-index l.types)))) ≡ left_after l.initial.room (nodes_in (as_elements (map (put_in regions (closed_types l.args)) l.types)))
