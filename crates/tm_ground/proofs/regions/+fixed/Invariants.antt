use Rattle.std.proofs.Common.{◌≡◌, ◌+◌, ◌*◌, map, take}
use Rattle.tm_ground.specs.Closed.{put_in}
use Rattle.tm_ground.specs.Sets.{closed_types}
use Rattle.tm_ground.proofs.sizes.SizeLemmas.{size_of, sizes_of}
use Rattle.tm_ground.proofs.regions.+fixed.Given as goal

-- the types made so far are the first ones
abbrev pub invariant-all_fixed-loop-item : goal.invariant-all_fixed-loop-item
invariant-all_fixed-loop-item l =
    closed_types l.all ≡ map (put_in l.regions (closed_types l.args)) (take l.item-index l.types)

-- an argument that is put in is copied without arguments
abbrev pub decreases-fixed : goal.decreases-fixed
decreases-fixed l = 2 * (size_of l.written.now + sizes_of l.args.now)

abbrev pub decreases-all_fixed : goal.decreases-all_fixed
decreases-all_fixed l = 2 * (sizes_of l.types.now + sizes_of l.args.now) + 1
