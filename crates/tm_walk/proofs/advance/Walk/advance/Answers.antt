use Rattle.std.proofs.Common.{◌≡◌, ◌+◌, ◌<◌, length, arith}
use Rattle.tm_walk.proofs.NextLayerLemmas.{next_none, next_more, weights_turn, weights_most}
use Rattle.tm_walk.proofs.advance.Walk.advance.Goals as goal

pub loop-k-init : goal.loop-k-init
loop-k-init g c = record { next = rw c.new-next.ensures (next_none _ _ _ _ _ _); cost = omega arith; counted = omega arith }

pub returns-in_err-expand-clause-cost : goal.returns-in_err-expand-clause-cost
returns-in_err-expand-clause-cost g c =
    let skip = g.Q.Quantifier.skip c.args.self.now.quantifier.now in
    let within : c.loop-k.k < length c.args.layer.now = (let t = c.loop-k-test.true in let e = c.len-k-end.ensures in omega arith) in
    let t = weights_turn skip c.args.layer.now c.loop-k.k c.args.steps.now c.loop-k.steps _ within c.loop-k.invariant.cost c.expand.ensures.cost in
    let m = weights_most skip c.args.layer.now (c.loop-k.k + 1) in
    omega arith

pub loop-k-preserved : goal.loop-k-preserved
loop-k-preserved g c =
    let skip = g.Q.Quantifier.skip c.args.self.now.quantifier.now in
    let within : c.loop-k.k < length c.args.layer.now = (let t = c.loop-k-test.true in let e = c.len-k-end.ensures in omega arith) in
    record {
      next = next_more _ _ _ _ _ _ _ _ _ c.loop-k.invariant.next c.in_ok-expand.ensures.expanded;
      cost = weights_turn skip c.args.layer.now c.loop-k.k c.args.steps.now c.loop-k.steps _ within c.loop-k.invariant.cost c.expand.ensures.cost;
      counted = let i = c.loop-k.invariant.counted in let e = c.expand.ensures.counted in omega arith;
    }

pub returns-clause-next : goal.returns-clause-next
returns-clause-next g c =
    let end : c.loop-k.k ≡ length c.args.layer.now = (let t = c.loop-k-test.false in let e = c.len-k-end.ensures in let b = c.loop-k.auto.k-end in omega arith) in
    rw (← end) c.loop-k.invariant.next

pub returns-clause-cost : goal.returns-clause-cost
returns-clause-cost g c =
    let skip = g.Q.Quantifier.skip c.args.self.now.quantifier.now in
    let m = weights_most skip c.args.layer.now c.loop-k.k in
    let i = c.loop-k.invariant.cost in
    omega arith
