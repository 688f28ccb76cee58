use Rattle.std.proofs.Common.{◌≡◌, ◌+◌, drop}
use Rattle.tm_auto.specs.Automata.{AreStates}
use Rattle.tm_walk.specs.Words.{live_length}
use Rattle.tm_walk.proofs.completion.live_length.Given as goal

abbrev pub invariant-loop-cell : goal.invariant-loop-cell
invariant-loop-cell g l = record {
  count : l.count ≡ l.cell-index;
  states : AreStates l.dst l.set;
  same : l.count + live_length (g.M.RefTest.test l.refs) l.dst l.set (drop l.cell-index l.cells) ≡ live_length (g.M.RefTest.test l.refs) l.dst l.dst.starts l.cells;
}
