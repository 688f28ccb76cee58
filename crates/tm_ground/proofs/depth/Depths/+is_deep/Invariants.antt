use Rattle.std.proofs.Common.{◌≡◌, ◌+◌, ◌*◌, false, length, take}
use Rattle.std.specs.List.{flat_map, list_any}
use Rattle.tm_base.specs.Whole.{written_types}
use Rattle.tm_ground.specs.Depths.{is_deep}
use Rattle.tm_ground.proofs.depth.Depths.+is_deep.Given as goal

-- none of the first types is so
abbrev pub invariant-are_deep-loop-ty : goal.invariant-are_deep-loop-ty
invariant-are_deep-loop-ty l = list_any (is_deep l.self.tables) (take l.ty-index l.types) ≡ false

abbrev pub decreases-is_deep : goal.decreases-is_deep
decreases-is_deep l = 2 * length (written_types l.ty.now)

abbrev pub decreases-are_deep : goal.decreases-are_deep
decreases-are_deep l = 2 * length (flat_map written_types l.types.now) + 1
