use Rattle.std.proofs.Common.{◌∙◌}
use Rattle.tm_base.specs.Worlds.{tables_of}
use Rattle.tm_layout.proofs.LaidOutLemmas.{prim-laid_out, prim-sized}
use Rattle.tm_check.proofs.LevelLemmas.{tag-sized}
use Rattle.tm_check.proofs.matcher.Matcher.tag_size.Goals as goal

pub size-requires : goal.size-requires
size-requires g c = prim-laid_out (tables_of c.args.self.now.world.now) c.unwrap_or.result

pub returns : goal.returns
returns g c =
    c.size.ensures ∙ prim-sized (tables_of c.args.self.now.world.now) c.unwrap_or.result ∙ tag-sized c.args.self.now.world.now.profile c.args.tag c.unwrap_or.result c.unwrap_or.ensures
