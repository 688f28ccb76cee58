use Rattle.std.proofs.Common.{◌≡◌, drop}
use Rattle.tm_layout.specs.Together.{variants_together, joined}
use Rattle.tm_layout.proofs.parts.together.Given as goal

abbrev pub invariant-loop-fields : goal.invariant-loop-fields
invariant-loop-fields l = joined l.together (variants_together (drop l.fields-index l.variants)) ≡ variants_together l.fn.variants
