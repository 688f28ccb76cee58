use Rattle.std.proofs.Common.{◌≡◌, ◌++◌, drop}
use Rattle.std.specs.List.{flat_map}
use Rattle.tm_names.specs.Mentions.{mentions_of}
use Rattle.tm_names.specs.Scopes.{variant_mentions}
use Rattle.tm_names.proofs.faults.mentioning.add_variant_mentions.Given as goal

abbrev pub invariant-loop-field : goal.invariant-loop-field
invariant-loop-field l =
    l.found ++ flat_map (λ field. mentions_of field.ty) (drop l.field-index l.field-items) ≡ l.initial.found ++ variant_mentions l.fn.variant
