use Rattle.std.proofs.Common.{List, subst, sym}
use Rattle.std.specs.List.{All}
use Rattle.tm_base.specs.declared.ground.Ground.{Ground}
use Rattle.tm_base.specs.Worlds.{IsTypeOver, tables_of}
use Rattle.tm_run.proofs.answers.OverLemmas.{sources-over}
use Rattle.tm_run.proofs.reported.matrixed.Goals as goal

pub matrix-requires-clause-types_are : goal.matrix-requires-clause-types_are
matrix-requires-clause-types_are g c =
    let world = c.args.world.now in
    subst (λ (types : List Ground). All (IsTypeOver (tables_of world)) types) (sym c.in_ok-types.ensures) (sources-over world)
