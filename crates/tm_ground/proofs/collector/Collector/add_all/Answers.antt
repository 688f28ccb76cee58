use Rattle.std.proofs.Common.{refl, ap, map, ◌∷◌, []}
use Rattle.std.proofs.lemmas.List.{drop_all}
use Rattle.tm_ground.specs.Closed.{put_in}
use Rattle.tm_ground.specs.Sets.{closed_types}
use Rattle.tm_ground.proofs.finding.SeeingLemmas.{goes-begin, goes-step, goes-stop, goes-end, map-drop}
use Rattle.tm_ground.proofs.collector.Collector.add_all.Goals as goal

pub loop-item-init : goal.loop-item-init
loop-item-init c = goes-begin _ _ _ (refl)

pub returns-in-Err : goal.returns-in-Err
returns-in-Err c =
    let next = map-drop (put_in c.args.regions.now (closed_types c.args.args.now)) c.args.types.now c.loop-item.item-index c.item-item.result c.loop-item-test.true c.item-item.is in
    goes-stop _ _ _ _ (put_in c.args.regions.now (closed_types c.args.args.now) c.item-item.result ∷ []) _ c.add.new.self c.in-Err.stop c.loop-item.invariant next c.in-Err.ensures

pub loop-item-preserved : goal.loop-item-preserved
loop-item-preserved c =
    let next = map-drop (put_in c.args.regions.now (closed_types c.args.args.now)) c.args.types.now c.loop-item.item-index c.item-item.result c.loop-item-test.true c.item-item.is in
    goes-step _ _ _ _ _ _ _ c.loop-item.invariant next c.in-Ok.ensures

pub returns : goal.returns
returns c =
    let none = drop_all c.loop-item.item-index c.args.types.now c.loop-item-test.false in
    goes-end _ _ _ _ c.loop-item.invariant (ap (map (put_in c.args.regions.now (closed_types c.args.args.now))) none)
