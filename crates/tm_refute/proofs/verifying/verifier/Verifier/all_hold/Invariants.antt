use Rattle.std.proofs.Common.{take}
use Rattle.std.specs.List.{All}
use Rattle.tm_base.specs.Worlds.{tables_of}
use Rattle.tm_refute.specs.Refutes.{Holds}
use Rattle.tm_refute.proofs.verifying.verifier.Verifier.all_hold.Given as goal

-- the entries so far hold
abbrev pub invariant-loop-entry : goal.invariant-loop-entry
invariant-loop-entry l = All (Holds (tables_of l.self.world.now) l.self.assume l.self.entries.now) (take l.entry-index l.self.entries.now)
