use Rattle.std.proofs.Common.{◌≡◌, All, take}
use Rattle.tm_base.specs.Worlds.{tables_of}
use Rattle.tm_matrix.specs.Known.{IsKnown, grounds}
use Rattle.tm_matrix.proofs.known.known_types.Given as goal

-- what is listed are the types so far, each known
abbrev pub invariant-loop-g : goal.invariant-loop-g
invariant-loop-g l = record {
  are : All (IsKnown (tables_of l.fn.world)) l.knowns;
  same : grounds l.knowns ≡ take l.g-index l.types;
}
