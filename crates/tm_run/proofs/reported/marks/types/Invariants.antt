use Rattle.std.proofs.Common.{◌≡◌, ◌++◌, drop}
use Rattle.tm_run.specs.Marks.{types_of}
use Rattle.tm_run.proofs.reported.marks.types.Given as goal

abbrev pub invariant-loop-ask : goal.invariant-loop-ask
invariant-loop-ask l = l.types ++ types_of (drop l.ask-index l.ask-items) ≡ types_of l.world.questions
