use Rattle.std.proofs.Common.{refl}
use Rattle.tm_base.specs.Worlds.{tables_of}
use Rattle.tm_refs.proofs.RoundLemmas.{solved-for}
use Rattle.tm_refs.proofs.ServesLemmas.{solved-serves}
use Rattle.tm_refs.proofs.compat.Compat.solve.Goals as goal

pub returns-clause-solved : goal.returns-clause-solved
returns-clause-solved g c = solved-for (tables_of c.args.world.now) c.args.assume _ refl c.in_ok-table.ensures.solved

pub returns-clause-serves : goal.returns-clause-serves
returns-clause-serves g c = λ t.
    solved-serves (tables_of c.args.world.now) c.args.assume t _ (solved-for (tables_of c.args.world.now) c.args.assume _ refl c.in_ok-table.ensures.solved)
