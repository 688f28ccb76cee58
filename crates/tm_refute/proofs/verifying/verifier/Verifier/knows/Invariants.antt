use Rattle.std.proofs.Common.{take}
use Rattle.std.specs.List.{All}
use Rattle.tm_refute.specs.Refutes.{IsKnown}
use Rattle.tm_refute.proofs.verifying.verifier.Verifier.knows.Given as goal

-- the cells so far name no others
abbrev pub invariant-loop-cell : goal.invariant-loop-cell
invariant-loop-cell l = All (IsKnown l.count) (take l.cell-index l.word)
