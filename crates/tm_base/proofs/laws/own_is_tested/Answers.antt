use Rattle.tm_base.proofs.CellLemmas.{or_own-exact}
use Rattle.tm_base.proofs.laws.own_is_tested.Goals as goal

pub returns : goal.returns
returns c = or_own-exact
