use Rattle.std.proofs.Common.{◌≡◌, ◌+◌, ◌*◌, ◌++◌, map, drop}
use Rattle.tm_ground.specs.Closed.{put_in}
use Rattle.tm_ground.specs.Codes.{codes_of}
use Rattle.tm_ground.specs.Sets.{closed_types}
use Rattle.tm_ground.proofs.sizes.SizeLemmas.{size_of, sizes_of}
use Rattle.tm_ground.proofs.code.Code.+add.Given as goal

-- an argument that is put in has no arguments put in
abbrev pub decreases-add : goal.decreases-add
decreases-add l = 2 * (size_of l.ty.now + sizes_of l.args.now)

abbrev pub decreases-add_all : goal.decreases-add_all
decreases-add_all l = 2 * (sizes_of l.types.now + sizes_of l.args.now) + 1

-- the codes of the types that are left are still to be added
abbrev pub invariant-add_all-loop-item : goal.invariant-add_all-loop-item
invariant-add_all-loop-item l =
    l.self.numbers.items ++ codes_of (map (put_in l.regions (closed_types l.args)) (drop l.item-index l.types)) ≡ l.initial.self.numbers.items ++ codes_of (map (put_in l.regions (closed_types l.args)) l.types)
