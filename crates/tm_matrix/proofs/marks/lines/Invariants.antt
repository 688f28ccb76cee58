use Rattle.std.proofs.Common.{◌≡◌, take}
use Rattle.std.specs.List.{AllZip}
use Rattle.tm_base.specs.Worlds.{tables_of}
use Rattle.tm_matrix.specs.Known.{grounds}
use Rattle.tm_matrix.specs.Matrix.{IsLine}
use Rattle.tm_matrix.proofs.marks.lines.Given as goal

-- the lines so far are those of the types so far
abbrev pub invariant-loop-known : goal.invariant-loop-known
invariant-loop-known g l = record {
  each : AllZip (IsLine (tables_of l.fn.world) (grounds l.types)) (grounds (take l.known-index l.types)) l.lines;
  world : g.J.AskYes.told l.judge ≡ g.J.AskYes.told l.fn.judge;
}
