use Rattle.std.proofs.Common.{arith}
use Rattle.tm_auto.proofs.ClassLemmas.{uncut_turn}
use Rattle.tm_auto.proofs.class.uncut_to.Goals as goal

pub loop-label-preserved : goal.loop-label-preserved
loop-label-preserved c = record {
  past = c.cut-least.ensures.past;
  most = let a = c.cut-least.ensures.most in let b = c.loop-label.invariant.most in omega arith;
  uncut = uncut_turn c.args.labels.now c.loop-label.label-index _ c.args.at c.loop-label.least c.cut-least.result c.loop-label-test.true c.cut-least.ensures.most c.loop-label.invariant.uncut c.cut-least.ensures.uncut;
}
