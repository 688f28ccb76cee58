use Rattle.std.proofs.Common.{◌≡◌, ◌+◌, ◌*◌, false, take}
use Rattle.std.specs.List.{list_any}
use Rattle.tm_ground.specs.Depths.{passes_by}
use Rattle.tm_ground.proofs.depth.Depths.+passes.Given as goal

-- none of the first types passes
abbrev pub invariant-some_passes-loop-ty : goal.invariant-some_passes-loop-ty
invariant-some_passes-loop-ty l = list_any (passes_by l.self.tables l.number) (take l.ty-index l.types) ≡ false

abbrev pub decreases-passes : goal.decreases-passes
decreases-passes l = 2 * l.number

abbrev pub decreases-some_passes : goal.decreases-some_passes
decreases-some_passes l = 2 * l.number + 1
