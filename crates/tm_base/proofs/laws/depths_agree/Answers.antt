use Rattle.tm_base.proofs.CompatibleLemmas.{CompatibleTo-falls}
use Rattle.tm_base.proofs.laws.depths_agree.Goals as goal

pub returns : goal.returns
returns c = CompatibleTo-falls
