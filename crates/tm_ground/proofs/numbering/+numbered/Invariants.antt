use Rattle.std.proofs.Common.{◌+◌, ◌*◌, map, take}
use Rattle.std.specs.List.{AllZip}
use Rattle.tm_ground.specs.Closed.{put_in}
use Rattle.tm_ground.specs.Numbered.{IsNumbered}
use Rattle.tm_ground.specs.Sets.{closed_types}
use Rattle.tm_ground.proofs.sizes.SizeLemmas.{size_of, sizes_of}
use Rattle.tm_ground.proofs.numbering.+numbered.Given as goal

-- the types made so far are the first ones
abbrev pub invariant-all_numbered-loop-ty : goal.invariant-all_numbered-loop-ty
invariant-all_numbered-loop-ty l =
    AllZip (IsNumbered (closed_types l.found.named) (closed_types l.found.refs)) (map (put_in l.regions (closed_types l.args)) (take l.ty-index l.types)) l.all

-- an argument that is put in has no arguments put in
abbrev pub decreases-numbered : goal.decreases-numbered
decreases-numbered l = 3 * (size_of l.ty.now + sizes_of l.args.now)

abbrev pub decreases-numbered_tuple : goal.decreases-numbered_tuple
decreases-numbered_tuple l = 3 * (sizes_of l.elements.now + sizes_of l.args.now) + 2

abbrev pub decreases-all_numbered : goal.decreases-all_numbered
decreases-all_numbered l = 3 * (sizes_of l.types.now + sizes_of l.args.now) + 1
