use Rattle.std.proofs.Common.{◌≡◌, ◌++◌, drop}
use Rattle.std.specs.List.{flat_map}
use Rattle.tm_names.specs.Mentions.{mentions_of}
use Rattle.tm_names.proofs.faults.mentioning.+mentioning.Given as goal

abbrev pub invariant-add_all-loop-ty : goal.invariant-add_all-loop-ty
invariant-add_all-loop-ty l =
    l.found ++ flat_map mentions_of (drop l.ty-index l.types) ≡ l.initial.found ++ flat_map mentions_of l.types
