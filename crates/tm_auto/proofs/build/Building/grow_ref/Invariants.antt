use Rattle.tm_auto.proofs.CaseLemmas.{RefFront}
use Rattle.tm_auto.proofs.build.Building.grow_ref.Given as goal

abbrev pub invariant-loop-place : goal.invariant-loop-place
invariant-loop-place l = RefFront l.reference l.place l.target l.fn.self l.self l.next
