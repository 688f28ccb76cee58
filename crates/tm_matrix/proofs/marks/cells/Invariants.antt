use Rattle.std.proofs.Common.{◌≡◌, take}
use Rattle.tm_matrix.specs.Known.{grounds}
use Rattle.tm_matrix.specs.Matrix.{AreCells}
use Rattle.tm_matrix.proofs.marks.cells.Given as goal

-- the marks so far are those of the types so far
abbrev pub invariant-loop-dst : goal.invariant-loop-dst
invariant-loop-dst g l = record {
  cells : AreCells (g.J.AskYes.told l.fn.judge) (grounds (take l.dst-index l.types)) l.src.ground l.cells;
  world : g.J.AskYes.told l.judge ≡ g.J.AskYes.told l.fn.judge;
}
