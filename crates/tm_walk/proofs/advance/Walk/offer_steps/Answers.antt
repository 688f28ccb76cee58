use Rattle.tm_walk.proofs.ExpandLemmas.{offer_turn, offers_end}
use Rattle.tm_walk.proofs.advance.Walk.offer_steps.Goals as goal

pub loop-symbol-init : goal.loop-symbol-init
loop-symbol-init g c = λ after h. h

pub loop-symbol-preserved : goal.loop-symbol-preserved
loop-symbol-preserved g c = λ after h. c.loop-symbol.invariant after
    (offer_turn (g.M.RefTest.test c.args.self.now.refs.now) c.args.self.now.src.now c.args.self.now.dst.now c.args.from.now c.args.to.now c.args.k
    c.args.symbols.now c.loop-symbol.symbol-index _ c.loop-symbol-test.true _ _ _ c.in_ok-src.ensures.step c.in_ok-dst.ensures.step c.least.ensures _ _ after c.in_ok-offer.ensures h)

pub returns : goal.returns
returns g c = c.loop-symbol.invariant _ (offers_end (g.M.RefTest.test c.args.self.now.refs.now) c.args.self.now.src.now c.args.self.now.dst.now c.args.from.now c.args.to.now c.args.k
    c.args.symbols.now c.loop-symbol.symbol-index c.loop-symbol-test.false c.loop-symbol.next)
