use Rattle.tm_auto.specs.Automata.{AreStates}
use Rattle.tm_tests.proofs.automata.after.Given as goal

abbrev pub invariant-loop-symbol : goal.invariant-loop-symbol
invariant-loop-symbol l = AreStates l.auto' l.set
