use Rattle.tm_auto.proofs.LeastLemmas.{first_class, some_class, only_least, step_states}
use Rattle.tm_base.specs.Transmutes.{is_itself}
use Rattle.tm_auto.proofs.OnlyLemmas.{only_leads}
use Rattle.tm_auto.proofs.least.least_step.Goals as goal

pub returns-in-Some-clause-cell : goal.returns-in-Some-clause-cell
returns-in-Some-clause-cell c = rw c.least-cell.ensures (only_least _ _ _ c.law.ensures.automaton c.in-Some.ensures)

pub returns-in-Some-clause-set : goal.returns-in-Some-clause-set
returns-in-Some-clause-set c = rw (← c.of.ensures) (only_leads is_itself c.args.auto.now _ _ _ _ c.in-Some.ensures c.ends-set.ensures)

pub returns-in-Some-clause-states : goal.returns-in-Some-clause-states
returns-in-Some-clause-states c = step_states is_itself c.args.auto.now _ _ _ c.law.ensures.automaton (only_leads is_itself c.args.auto.now _ _ _ _ c.in-Some.ensures c.ends-set.ensures)

pub bounds-as_slice-0 : goal.bounds-as_slice-0
bounds-as_slice-0 c = rw c.as_slice.ensures (some_class _ _ _ _ c.in_ok-symbols.symbols c.in_ok-symbols.ensures c.requires.some)

pub returns-clause-cell : goal.returns-clause-cell
returns-clause-cell c = rw (c.least-cell-2.ensures, c.as_slice.ensures) (first_class _ _ _ _ c.in_ok-symbols.symbols _ c.in_ok-symbols.ensures (some_class _ _ _ _ c.in_ok-symbols.symbols c.in_ok-symbols.ensures c.requires.some))
