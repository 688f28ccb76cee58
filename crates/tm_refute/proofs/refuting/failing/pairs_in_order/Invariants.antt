use Rattle.tm_refute.proofs.making.FailingLemmas.{AreListed}
use Rattle.tm_refute.proofs.refuting.failing.pairs_in_order.Given as goal

-- the pairs of the sources so far, and of this source with the targets so far
abbrev pub invariant-loop-target : goal.invariant-loop-target
invariant-loop-target l = AreListed l.compat l.count l.source l.target l.pairs.items

abbrev pub invariant-loop-source : goal.invariant-loop-source
invariant-loop-source l = AreListed l.compat l.count l.source 0 l.pairs.items
