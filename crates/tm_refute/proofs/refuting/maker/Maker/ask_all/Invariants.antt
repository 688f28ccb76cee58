use Rattle.tm_refute.specs.Asking.{AsksAll}
use Rattle.tm_refute.proofs.refuting.maker.Maker.ask_all.Given as goal

-- the pairs of the references so far are asked for
abbrev pub invariant-loop-r : goal.invariant-loop-r
invariant-loop-r l = AsksAll l.fn.self.compat.now l.fn.limit l.fn.occurring l.fn.leaves l.r l.fn.asked l.asked
