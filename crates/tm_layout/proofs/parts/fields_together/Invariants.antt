use Rattle.std.proofs.Common.{◌≡◌, drop}
use Rattle.tm_layout.specs.Together.{fields_together, joined}
use Rattle.tm_layout.proofs.parts.fields_together.Given as goal

abbrev pub invariant-loop-field : goal.invariant-loop-field
invariant-loop-field l = joined l.together (fields_together (drop l.field-index l.fields)) ≡ fields_together l.fn.fields
