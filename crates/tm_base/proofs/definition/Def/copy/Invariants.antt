use Rattle.std.proofs.Common.{◌≡◌, take}
use Rattle.tm_base.proofs.definition.Def.copy.Given as goal

-- the copies made so far are of the first variants
abbrev pub invariant-loop-variant : goal.invariant-loop-variant
invariant-loop-variant l = l.variants ≡ take l.variant-index l.variant-items
