use Rattle.tm_walk.proofs.NextLayerLemmas.{stop_found}
use Rattle.tm_walk.proofs.advance.Walk.first_stop.Goals as goal

pub returns-then-stops : goal.returns-then-stops
returns-then-stops g c =
    stop_found (g.Q.Quantifier.stop c.args.self.now.quantifier.now) c.args.at_end c.args.layer.now c.loop-k.k _ _ c.sets.ensures _ c.is_live.ensures _ c.stops.ensures c.if-stops.true c.loop-k.invariant
