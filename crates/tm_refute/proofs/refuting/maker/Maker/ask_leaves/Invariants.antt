use Rattle.tm_refute.specs.Asking.{AsksLeaves}
use Rattle.tm_refute.proofs.refuting.maker.Maker.ask_leaves.Given as goal

-- the leaves so far are asked for
abbrev pub invariant-loop-leaf : goal.invariant-loop-leaf
invariant-loop-leaf l = AsksLeaves l.fn.self.compat.now l.fn.limit l.fn.source.0 l.fn.leaves l.leaf l.fn.asked l.asked
