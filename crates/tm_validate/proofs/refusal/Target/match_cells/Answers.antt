use Rattle.std.proofs.Common.{◌∙◌}
use Rattle.tm_base.specs.Tables.{expanded_in}
use Rattle.tm_base.specs.Transmutes.{is_itself}
use Rattle.tm_base.specs.Worlds.{tables_of}
use Rattle.tm_validate.proofs.MatchLemmas.{whole}
use Rattle.tm_validate.proofs.refusal.Target.match_cells.Goals as goal

pub last-requires-clause-all : goal.last-requires-clause-all
last-requires-clause-all c goes =
    let t = expanded_in (tables_of c.args.self.now.world.now) c.args.self.now.g.now in
    let valid = whole is_itself c.args.self.now.keep_private t c.args.self.now.judged c.args.cells.now c.requires.free (c.requires.long ∙ c.requires.sized) goes in
    cc (c.valid.ensures.exact.1 valid)
