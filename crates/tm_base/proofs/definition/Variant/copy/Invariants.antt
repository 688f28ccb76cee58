use Rattle.std.proofs.Common.{◌≡◌, take}
use Rattle.tm_base.proofs.definition.Variant.copy.Given as goal

-- the copies made so far are of the first fields
abbrev pub invariant-loop-field : goal.invariant-loop-field
invariant-loop-field l = l.fields ≡ take l.field-index l.field-items
