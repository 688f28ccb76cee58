use Rattle.std.proofs.Common.{ap, map}
use Rattle.std.specs.List.{flat_map}
use Rattle.std.proofs.lemmas.List.{drop_all}
use Rattle.tm_ground.specs.Closed.{put_in}
use Rattle.tm_ground.specs.Sets.{closed_types}
use Rattle.tm_ground.proofs.finding.SeeingLemmas.{goes-begin, goes-step, goes-stop, goes-end, flat_map-drop, all_fields-each}
use Rattle.tm_ground.proofs.collector.Collector.add_fields.Goals as goal

pub loop-types-init : goal.loop-types-init
loop-types-init c = goes-begin _ _ _ (all_fields-each c.args.regions.now (closed_types c.args.args.now) c.args.variants.now)

pub returns-in-Err : goal.returns-in-Err
returns-in-Err c =
    let next = flat_map-drop (λ ts. map (put_in c.args.regions.now (closed_types c.args.args.now)) ts) c.args.variants.now c.loop-types.types-index c.types-item.result c.loop-types-test.true c.types-item.is in
    goes-stop _ _ _ _ (map (put_in c.args.regions.now (closed_types c.args.args.now)) c.types-item.result) _ c.add_all.new.self c.in-Err.stop c.loop-types.invariant next (rw c.as_slice.ensures at c.in-Err.ensures)

pub loop-types-preserved : goal.loop-types-preserved
loop-types-preserved c =
    let next = flat_map-drop (λ ts. map (put_in c.args.regions.now (closed_types c.args.args.now)) ts) c.args.variants.now c.loop-types.types-index c.types-item.result c.loop-types-test.true c.types-item.is in
    goes-step _ _ _ _ _ _ _ c.loop-types.invariant next (rw c.as_slice.ensures at c.in-Ok.ensures)

pub returns : goal.returns
returns c =
    let none = drop_all c.loop-types.types-index c.args.variants.now c.loop-types-test.false in
    goes-end _ _ _ _ c.loop-types.invariant (ap (flat_map (λ ts. map (put_in c.args.regions.now (closed_types c.args.args.now)) ts)) none)
