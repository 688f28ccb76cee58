use Rattle.std.proofs.Common.{◌∷◌, []}
use Rattle.tm_ground.specs.Closed.{closed}
use Rattle.tm_ground.proofs.finding.SeeingLemmas.{collecting-then, collecting-stops}
use Rattle.tm_ground.proofs.collector.Collector.add_sides.Goals as goal

pub returns-in-Ok : goal.returns-in-Ok
returns-in-Ok c = collecting-then (closed c.args.ask.now.src ∷ []) (closed c.args.ask.now.dst ∷ []) _ c.add.new.self _ c.add-in-Ok.result c.in-Ok.ensures c.add-in-Ok.ensures

pub returns-in-Err : goal.returns-in-Err
returns-in-Err c = collecting-stops (closed c.args.ask.now.src ∷ []) (closed c.args.ask.now.dst ∷ []) _ c.add.new.self c.add.new.self c.in-Err.stop c.in-Err.ensures
