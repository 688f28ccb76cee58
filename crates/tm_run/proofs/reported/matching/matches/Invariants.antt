use Rattle.std.proofs.Common.{take}
use Rattle.std.specs.List.{AllZip}
use Rattle.tm_base.specs.Worlds.{tables_of}
use Rattle.tm_run.specs.Matches.{IsMatch}
use Rattle.tm_run.proofs.reported.matching.matches.Given as goal

-- it is known what the bytes are to the targets of the first questions
abbrev pub invariant-loop-ask : goal.invariant-loop-ask
invariant-loop-ask l = AllZip (IsMatch (tables_of l.world) l.bytes) (take l.ask-index l.ask-items) l.matches.items
