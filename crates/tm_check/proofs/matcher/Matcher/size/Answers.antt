use Rattle.std.proofs.Common.{◌≡◌, true}
use Rattle.tm_base.specs.Faults.{has_no_layout}
use Rattle.tm_base.specs.Tables.{expanded_in}
use Rattle.tm_base.specs.Worlds.{tables_of}
use Rattle.tm_check.proofs.matcher.Matcher.size.Goals as goal

pub unreachable-requires : goal.unreachable-requires
unreachable-requires g c =
    let tables = tables_of c.args.self.now.world.now in
    let none : has_no_layout (expanded_in tables c.args.g.now) ≡ true = (c.in-Err.ensures.answer tables c.args.self.now.made c.requires.over).0 in
    let sound = c.requires.sound in
    cc

pub returns : goal.returns
returns g c = (c.in-Ok.ensures.answer (tables_of c.args.self.now.world.now) c.args.self.now.made c.requires.over).1
