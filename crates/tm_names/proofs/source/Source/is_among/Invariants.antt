use Rattle.std.proofs.Common.{◌≡◌, drop}
use Rattle.tm_names.specs.Source.{names_in}
use Rattle.tm_names.specs.Written.{is_among}
use Rattle.tm_names.proofs.source.Source.is_among.Given as goal

-- what stands behind the places so far decides
abbrev pub invariant-loop-other : goal.invariant-loop-other
invariant-loop-other l =
    is_among (names_in l.self) (drop l.other-index l.places) l.place ≡ is_among (names_in l.fn.self) l.fn.places l.fn.place
