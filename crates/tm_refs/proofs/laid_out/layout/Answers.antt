use Rattle.std.proofs.lemmas.Bool.{both_ways}
use Rattle.tm_base.specs.Worlds.{tables_of}
use Rattle.tm_refs.proofs.laid_out.layout.Goals as goal

pub unreachable-requires : goal.unreachable-requires
unreachable-requires c = both_ways _ c.requires.has.sound (c.in-Err.ensures.answer (tables_of c.args.world.now) c.requires.made c.requires.has.over).0

pub returns-clause-size : goal.returns-clause-size
returns-clause-size c = (c.in-Ok.ensures.answer (tables_of c.args.world.now) c.requires.made c.requires.has.over).1

pub returns-clause-align : goal.returns-clause-align
returns-clause-align c = (c.in-Ok.ensures.answer (tables_of c.args.world.now) c.requires.made c.requires.has.over).2
