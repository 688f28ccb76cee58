use Rattle.std.proofs.Common.{length}
use Rattle.tm_refute.proofs.reading.WordLemmas.{IsSoFar}
use Rattle.tm_refute.proofs.text.word.word.Given as goal

abbrev pub invariant-loop-run : goal.invariant-loop-run
invariant-loop-run l = IsSoFar l.pointer l.fn.text l.word l.line.rest.now

abbrev pub decreases-loop-run : goal.decreases-loop-run
decreases-loop-run l = length l.line.rest.now
