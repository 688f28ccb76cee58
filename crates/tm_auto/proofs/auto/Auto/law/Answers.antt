use Rattle.tm_auto.proofs.AutomatonLemmas.{layered, reads}
use Rattle.tm_auto.proofs.auto.Auto.law.Goals as goal

pub returns-clause-layers : goal.returns-clause-layers
returns-clause-layers c = rw (← c.self.view_is) (layered _ c.self.invariant)

pub returns-clause-reads : goal.returns-clause-reads
returns-clause-reads c = rw (← c.self.view_is) (reads _ c.self.invariant)
