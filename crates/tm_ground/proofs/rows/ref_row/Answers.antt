use Rattle.std.proofs.Common.{[], subst}
use Rattle.tm_ground.specs.Closed.{closed}
use Rattle.tm_ground.specs.Numbered.{HasNumbers}
use Rattle.tm_ground.specs.Sets.{closed_types}
use Rattle.tm_ground.proofs.numbers.NumberLemmas.{has-pointee}
use Rattle.tm_ground.proofs.rows.ref_row.Goals as goal

pub numbered-requires : goal.numbered-requires
numbered-requires c =
    let has = subst (λ w. HasNumbers (closed_types c.args.found.now.named) (closed_types c.args.found.now.refs) (closed w)) c.in-Ref.is c.requires.numbers in
    rw c.get.ensures (has-pointee _ _ [] [] _ _ _ has)
