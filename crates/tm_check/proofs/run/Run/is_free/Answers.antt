use Rattle.std.proofs.Common.{◌∙◌}
use Rattle.tm_check.proofs.RunLemmas.{free-told}
use Rattle.tm_check.proofs.run.Run.is_free.Goals as goal

pub returns : goal.returns
returns c = c.are_free.ensures ∙ free-told c.args.self.uninit c.args.self.told.now
