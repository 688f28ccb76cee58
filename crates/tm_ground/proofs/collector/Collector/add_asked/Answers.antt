use Rattle.std.proofs.Common.{refl, ap}
use Rattle.std.specs.List.{flat_map}
use Rattle.std.proofs.lemmas.List.{drop_all}
use Rattle.tm_ground.specs.Occurs.{sides_of}
use Rattle.tm_ground.proofs.finding.SeeingLemmas.{goes-begin, goes-step, goes-stop, goes-end, flat_map-drop}
use Rattle.tm_ground.proofs.collector.Collector.add_asked.Goals as goal

pub loop-ask-init : goal.loop-ask-init
loop-ask-init c = goes-begin _ _ _ (refl)

pub returns-in-Err : goal.returns-in-Err
returns-in-Err c =
    let next = flat_map-drop sides_of c.args.asks.now c.loop-ask.ask-index c.ask-item.result c.loop-ask-test.true c.ask-item.is in
    goes-stop _ _ _ _ (sides_of c.ask-item.result) _ c.add_sides.new.self c.in-Err.stop c.loop-ask.invariant next c.in-Err.ensures

pub loop-ask-preserved : goal.loop-ask-preserved
loop-ask-preserved c =
    let next = flat_map-drop sides_of c.args.asks.now c.loop-ask.ask-index c.ask-item.result c.loop-ask-test.true c.ask-item.is in
    goes-step _ _ _ _ _ _ _ c.loop-ask.invariant next c.in-Ok.ensures

pub returns : goal.returns
returns c =
    let none = drop_all c.loop-ask.ask-index c.args.asks.now c.loop-ask-test.false in
    goes-end _ _ _ _ c.loop-ask.invariant (ap (flat_map sides_of) none)
