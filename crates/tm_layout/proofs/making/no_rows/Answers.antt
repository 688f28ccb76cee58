use Rattle.std.proofs.Common.{length-append, arith}
use Rattle.tm_layout.proofs.MakingLemmas.{none-more}
use Rattle.tm_layout.proofs.making.no_rows.Goals as goal

pub loop-preserved : goal.loop-preserved
loop-preserved c = record {
  count = rw c.in_ok-push.ensures.items (simp length-append (omega (arith, c.loop.invariant.count)));
  none = λ k. rw c.in_ok-push.ensures.items (none-more c.loop.rows.items c.loop.invariant.none k);
}
