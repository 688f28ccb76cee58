use Rattle.std.proofs.Common.{take}
use Rattle.tm_ground.specs.Codes.{AreCodes}
use Rattle.tm_ground.specs.Sets.{closed_types}
use Rattle.tm_ground.proofs.type_set.TypeSet.of.Given as goal

-- the codes so far are those of the first types
abbrev pub invariant-loop-ty : goal.invariant-loop-ty
invariant-loop-ty l = AreCodes l.keys.keys (closed_types (take l.ty-index l.fn.types))
