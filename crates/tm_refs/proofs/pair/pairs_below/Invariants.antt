use Rattle.std.proofs.Common.{◌≡◌, ◌++◌}
use Rattle.std.specs.List.{flat_map, range_with_len}
use Rattle.tm_refs.specs.Looks.{pairs_from}
use Rattle.tm_refs.proofs.pair.pairs_below.Given as goal

-- the pairs of the sources so far, and of this one those with the targets so far
abbrev pub invariant-loop-target : goal.invariant-loop-target
invariant-loop-target l = l.pairs.items ≡ flat_map (λ r. pairs_from r l.count) (range_with_len 0 l.source) ++ pairs_from l.source l.target

-- the pairs of the sources so far
abbrev pub invariant-loop-source : goal.invariant-loop-source
invariant-loop-source l = l.pairs.items ≡ flat_map (λ r. pairs_from r l.count) (range_with_len 0 l.source)
