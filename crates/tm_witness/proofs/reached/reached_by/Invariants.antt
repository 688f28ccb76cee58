use Rattle.std.proofs.Common.{◌≡◌, take}
use Rattle.tm_auto.specs.Automata.{AreStates, reached}
use Rattle.tm_witness.proofs.reached.reached_by.Given as goal

abbrev pub invariant-loop-cell : goal.invariant-loop-cell
invariant-loop-cell g l = (l.states ≡ reached (g.M.RefTest.test l.refs) l.auto' (take l.cell-index l.cells)) × AreStates l.auto' l.states
