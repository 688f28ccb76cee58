use Rattle.std.proofs.Common.{ap, [], map, Ok, Err}
use Rattle.tm_ground.specs.Closed.{region_of}
use Rattle.tm_ground.specs.Occurs.{fields_of}
use Rattle.tm_ground.specs.Sets.{closed_types}
use Rattle.tm_ground.proofs.finding.ClosingLemmas.{inside-named}
use Rattle.tm_ground.proofs.finding.SeeingLemmas.{collecting-same, collecting-then, collecting-stops}
use Rattle.tm_ground.proofs.collector.Collector.add_inside.Goals as goal

pub returns-in-Err : goal.returns-in-Err
returns-in-Err c =
    let inside = inside-named c.args.resolved.now c.args.ty.now c.in-Named.def c.in-Named.lives c.in-Named.args c.in-Named.is in
    let given = collecting-same _ _ _ c.add_all.new.self (Err c.in-Err.stop) (ap closed_types c.as_slice.ensures) c.in-Err.ensures in
    collecting-same _ _ _ c.add_all.new.self (Err c.in-Err.stop) inside (collecting-stops _ (fields_of c.args.resolved.now c.in-Named.def (map (region_of []) c.in-Named.lives) (closed_types c.in-Named.args)) _ c.add_all.new.self c.add_all.new.self c.in-Err.stop given)

pub returns : goal.returns
returns c =
    let inside = inside-named c.args.resolved.now c.args.ty.now c.in-Named.def c.in-Named.lives c.in-Named.args c.in-Named.is in
    let given = collecting-same _ _ _ _ (Ok tt) (ap closed_types c.as_slice.ensures) c.in-Ok.ensures in
    let fields = rw (c.as_slice-in-Named-2.ensures, c.in-Ok-regions.ensures, c.as_slice-in-Named.ensures, c.as_slice-in-Named-3.ensures, c.written_fields-variants.ensures) at c.add_fields.ensures in
    collecting-same _ _ _ _ c.add_fields.result inside (collecting-then _ _ _ c.add_all.new.self _ c.add_fields.result given fields)
