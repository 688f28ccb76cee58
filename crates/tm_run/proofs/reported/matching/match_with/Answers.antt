use Rattle.std.proofs.Common.{Option, subst}
use Rattle.tm_base.specs.declared.answer.Why.{Why}
use Rattle.tm_base.specs.declared.ground.Ground.{Ground}
use Rattle.tm_base.specs.Worlds.{tables_of}
use Rattle.tm_layout.specs.Named.{IsRefusedAnswer}
use Rattle.tm_base.proofs.HeldLemmas.{judged-laid_out}
use Rattle.tm_run.proofs.reported.matching.match_with.Goals as goal

pub against-requires-clause-judged : goal.against-requires-clause-judged
against-requires-clause-judged c =
    let tables = tables_of c.args.world.now in
    let g = c.args.ask.now.dst in
    judged-laid_out (tables_of c.args.world.now) g c.requires.over (subst (λ (found : Option (Why × Ground)). IsRefusedAnswer tables g found) c.in-None.is c.in_ok-why.ensures)

pub returns-in_ok-fits-in-None : goal.returns-in_ok-fits-in-None
returns-in_ok-fits-in-None c =
    let tables = tables_of c.args.world.now in
    let g = c.args.ask.now.dst in
    (subst (λ (found : Option (Why × Ground)). IsRefusedAnswer tables g found) c.in-None.is c.in_ok-why.ensures, c.in_ok-fits-in-None.ensures.exact)
