use Rattle.tm_refs.proofs.PairLemmas.{source-step, target-step}
use Rattle.tm_refs.proofs.pair.pairs_below.Goals as goal

pub loop-target-preserved : goal.loop-target-preserved
loop-target-preserved c = target-step c.args.count c.loop-source.source c.loop-target.target c.loop-target.pairs.items c.push.new.self.items c.in_ok-push.ensures.items c.loop-target.invariant

pub loop-source-preserved : goal.loop-source-preserved
loop-source-preserved c = source-step c.args.count c.loop-source.source c.loop-target.target c.loop-target.pairs.items c.loop-target-test.false c.loop-target.auto.target-end c.loop-target.invariant
