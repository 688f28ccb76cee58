use Rattle.std.proofs.Common.{◌≡◌, drop}
use Rattle.tm_names.specs.Representations.{has_field}
use Rattle.tm_names.proofs.forms.has_field.Given as goal

abbrev pub invariant-loop-variant : goal.invariant-loop-variant
invariant-loop-variant l =
    has_field (drop l.variant-index l.variants) ≡ has_field l.fn.variants
