use Rattle.tm_auto.proofs.FirstLemmas.{Indexed}
use Rattle.tm_auto.proofs.edges.firsts_of.Given as goal

abbrev pub invariant-loop-place : goal.invariant-loop-place
invariant-loop-place l = Indexed l.edges l.firsts.items l.place
