use Rattle.tm_auto.proofs.OnlyLemmas.{only_classes, only_leads}
use Rattle.tm_auto.proofs.only.only_step.Goals as goal

pub returns-clause-classes : goal.returns-clause-classes
returns-clause-classes g c = only_classes _ _ _ _ _ _ _ c.in_ok-source.ensures c.in_ok-target.ensures c.in_ok-symbol.ensures

pub returns-clause-source : goal.returns-clause-source
returns-clause-source g c = only_leads _ _ _ _ _ _ c.in_ok-source.ensures c.ends.ensures

pub returns-clause-target : goal.returns-clause-target
returns-clause-target g c = only_leads _ _ _ _ _ _ c.in_ok-target.ensures c.ends-2.ensures
