use Rattle.std.proofs.Common.{◌≡◌, ◌++◌, drop}
use Rattle.std.specs.List.{flat_map}
use Rattle.tm_names.specs.Scopes.{decl_mentions, variant_mentions}
use Rattle.tm_names.proofs.faults.mentioning.mentions.Given as goal

abbrev pub invariant-loop-variant : goal.invariant-loop-variant
invariant-loop-variant l =
    l.found ++ flat_map variant_mentions (drop l.variant-index l.variant-items) ≡ decl_mentions l.fn.decl
