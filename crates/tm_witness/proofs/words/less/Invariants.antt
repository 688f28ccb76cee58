use Rattle.std.proofs.Common.{◌≡◌, length, drop}
use Rattle.tm_base.specs.Orders.{word_less}
use Rattle.tm_witness.proofs.words.less.Given as goal

abbrev pub invariant-loop-first : goal.invariant-loop-first
invariant-loop-first l =
    (goal.iterator-loop-first).can_next l.first-iterator ×
    (goal.iterator-loop-first).is_finite l.first-iterator ×
    (word_less l.a l.b ≡ word_less (drop (length l.yielded) l.a) (drop (length l.yielded) l.b))
