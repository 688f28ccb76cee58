use Rattle.std.proofs.Common.{map, take}
use Rattle.tm_ground.specs.Closed.{put_in}
use Rattle.tm_ground.specs.Rows.{AreFields}
use Rattle.tm_ground.specs.Sets.{closed_types}
use Rattle.tm_ground.proofs.rows.numbered_fields.Given as goal

-- the lists made so far are those of the first variants
abbrev pub invariant-loop-types : goal.invariant-loop-types
invariant-loop-types l = AreFields (closed_types l.found.named) (closed_types l.found.refs) (map (map (put_in l.regions (closed_types l.args))) (take l.types-index l.variants)) l.all
