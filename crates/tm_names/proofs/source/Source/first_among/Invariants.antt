use Rattle.std.proofs.Common.{◌≡◌, drop}
use Rattle.std.specs.List.{position_from}
use Rattle.tm_names.specs.Source.{names_in}
use Rattle.tm_names.specs.Written.{first_among, is_same}
use Rattle.tm_names.proofs.source.Source.first_among.Given as goal

-- what stands behind the places so far decides
abbrev pub invariant-loop-number : goal.invariant-loop-number
invariant-loop-number l =
    position_from (λ p. is_same (names_in l.self) p l.place) l.number (drop l.number l.places) ≡ first_among (names_in l.fn.self) l.fn.places l.fn.place
