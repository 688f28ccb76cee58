use Rattle.std.proofs.Common.{◌≡◌, ◌+◌, ◌<◌, ◌^◌, drop}
use Rattle.tm_base.specs.Weight.{sum_from}
use Rattle.tm_layout.specs.Capped.{capped}
use Rattle.tm_layout.specs.Reckoned.{weights_in}
use Rattle.tm_layout.proofs.weights.weight_sum.Given as goal

-- what is summed and what is left make the whole
abbrev pub invariant-loop-field : goal.invariant-loop-field
invariant-loop-field l = record {
  fits : l.sum < 2 ^ 32;
  whole : capped (l.sum + sum_from l.least (weights_in (drop l.field-index l.fields))) ≡ capped (sum_from l.fn.least (weights_in l.fn.fields));
}
