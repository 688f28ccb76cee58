use Rattle.std.proofs.Common.{◌∷◌, [], arith, sym, ap, subst}
use Rattle.std.proofs.lemmas.List.{drop_all}
use Rattle.tm_ground.specs.Closed.{closed}
use Rattle.tm_ground.specs.Collecting.{AreSmall}
use Rattle.tm_ground.specs.Sets.{closed_types}
use Rattle.tm_ground.proofs.finding.FindingLemmas.{collecting-written, finding-stops, parts-small}
use Rattle.tm_ground.proofs.finding.SeeingLemmas.{goes-step, goes-stop, goes-end, map-drop, collecting-same, contains-item}
use Rattle.tm_ground.proofs.sizes.SizeLemmas.{size_of-at, size_of-parts}
use Rattle.tm_ground.proofs.collector.Collector.+add_written.Goals as goal

pub add_all_written-add_written-requires : goal.add_all_written-add_written-requires
add_all_written-add_written-requires t c =
    let h = size_of-at c.args.types.now c.loop-item.item-index c.item-item.result c.loop-item-test.true c.item-item.is in
    (omega (arith, h), c.requires.each _ (contains-item closed c.args.types.now c.loop-item.item-index c.item-item.result c.loop-item-test.true c.item-item.is))

pub add_all_written-returns-in-Err : goal.add_all_written-returns-in-Err
add_all_written-returns-in-Err t c =
    let next = map-drop closed c.args.types.now c.loop-item.item-index c.item-item.result c.loop-item-test.true c.item-item.is in
    goes-stop _ _ _ _ (closed c.item-item.result ∷ []) _ c.add_written.new.self c.in-Err.stop c.loop-item.invariant next c.in-Err.ensures

pub add_all_written-loop-item-preserved : goal.add_all_written-loop-item-preserved
add_all_written-loop-item-preserved t c =
    let next = map-drop closed c.args.types.now c.loop-item.item-index c.item-item.result c.loop-item-test.true c.item-item.is in
    goes-step _ _ _ _ _ _ _ c.loop-item.invariant next c.in-Ok.ensures

pub add_all_written-returns : goal.add_all_written-returns
add_all_written-returns t c =
    let none = drop_all c.loop-item.item-index c.args.types.now c.loop-item-test.false in
    goes-end _ _ _ _ c.loop-item.invariant (ap closed_types none)

pub add_written-add_all_written-requires : goal.add_written-add_all_written-requires
add_written-add_all_written-requires t c =
    let h = size_of-parts _ _ c.parts.ensures in
    (omega (arith, h), subst AreSmall (sym c.parts.ensures) (parts-small _ c.requires))

pub add_written-returns-in-Ok : goal.add_written-returns-in-Ok
add_written-returns-in-Ok t c =
    collecting-written _ _ c.add_own.new.self _ c.add_all_written.result c.requires c.in-Ok.ensures (collecting-same _ _ _ _ _ c.parts.ensures c.add_all_written.ensures)

pub add_written-returns-in-Err : goal.add_written-returns-in-Err
add_written-returns-in-Err t c = finding-stops _ _ c.add_own.new.self c.in-Err.stop c.in-Err.ensures
