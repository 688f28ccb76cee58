use Rattle.tm_layout.proofs.FactLemmas.{tuple-facts}
use Rattle.tm_layout.proofs.facts.tuple.Goals as goal

pub returns : goal.returns
returns c members aligned interior = rw c.whole.ensures (tuple-facts members c.args.aligned c.args.interior aligned interior)
