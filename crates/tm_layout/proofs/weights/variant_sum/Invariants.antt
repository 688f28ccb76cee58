use Rattle.std.proofs.Common.{◌≡◌, ◌+◌, ◌<◌, ◌^◌, drop}
use Rattle.tm_base.specs.Weight.{variants_sum_from}
use Rattle.tm_layout.specs.Capped.{capped}
use Rattle.tm_layout.specs.Reckoned.{variant_weights_in}
use Rattle.tm_layout.proofs.weights.variant_sum.Given as goal

-- what is summed and what is left make the whole
abbrev pub invariant-loop-fields : goal.invariant-loop-fields
invariant-loop-fields l = record {
  fits : l.sum < 2 ^ 32;
  whole : capped (l.sum + variants_sum_from l.least l.tag (variant_weights_in (drop l.fields-index l.variants))) ≡ capped (variants_sum_from l.fn.least l.fn.tag (variant_weights_in l.fn.variants));
}
