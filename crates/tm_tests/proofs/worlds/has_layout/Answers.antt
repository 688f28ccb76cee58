use Rattle.tm_base.specs.Worlds.{tables_of}
use Rattle.tm_tests.proofs.worlds.has_layout.Goals as goal

pub returns-in-Ok : goal.returns-in-Ok
returns-in-Ok c = (c.in-Ok.ensures.answer (tables_of c.args.world.now) c.requires.made c.requires.over).0
