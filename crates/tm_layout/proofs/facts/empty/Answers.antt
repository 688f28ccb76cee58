use Rattle.std.proofs.Common.{sym, subst}
use Rattle.tm_base.specs.Expanded.{never, unit, phantom}
use Rattle.tm_layout.specs.Known.{IsFactsOf}
use Rattle.tm_layout.proofs.FactLemmas.{never-facts, unit-facts, phantom-facts}
use Rattle.tm_layout.proofs.facts.empty.Goals as goal

pub returns-clause-never : goal.returns-clause-never
returns-clause-never c = subst (IsFactsOf never) (sym c.whole.ensures) never-facts

pub returns-clause-unit : goal.returns-clause-unit
returns-clause-unit c = subst (IsFactsOf unit) (sym c.whole.ensures) unit-facts

pub returns-clause-phantom : goal.returns-clause-phantom
returns-clause-phantom c = subst (IsFactsOf phantom) (sym c.whole.ensures) phantom-facts
