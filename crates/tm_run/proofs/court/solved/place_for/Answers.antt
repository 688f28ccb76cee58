use Rattle.std.proofs.Common.{All, List, subst, sym}
use Rattle.std.proofs.lemmas.List.Elements.{All-push}
use Rattle.tm_base.specs.Worlds.{tables_of}
use Rattle.tm_refs.specs.declared.compat.Compat.{Compat}
use Rattle.tm_run.specs.Courts.{IsSolved}
use Rattle.tm_run.proofs.court.solved.place_for.Goals as goal

pub returns-clause-solved_are : goal.returns-clause-solved_are
returns-clause-solved_are g c =
    let tables = tables_of c.args.world.now in
    subst (λ (all : List Compat). All (IsSolved tables) all) (sym c.in_ok-push.ensures.items)
    (All-push (IsSolved tables) c.args.solved.now.items c.in_ok-table.table c.requires.solved_are
    (record { assume = c.args.assume; solved = c.in_ok-table.ensures.solved }))
