use Rattle.tm_check.proofs.RunLemmas.{front-told}
use Rattle.tm_check.proofs.run.Run.front.Goals as goal

pub returns : goal.returns
returns c = front-told c.args.count c.args.self.uninit c.min-end.result c.min.result c.args.self.told.now c.min-end.ensures c.min.ensures
