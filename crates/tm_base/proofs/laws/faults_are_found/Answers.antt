use Rattle.tm_base.proofs.FaultLemmas.{no_layout-faulty}
use Rattle.tm_base.proofs.laws.faults_are_found.Goals as goal

pub returns : goal.returns
returns c = no_layout-faulty
