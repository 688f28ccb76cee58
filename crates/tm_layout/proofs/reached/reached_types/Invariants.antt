use Rattle.std.proofs.Common.{◌-◌, ◌^◌}
use Rattle.tm_base.specs.Worlds.{tables_of}
use Rattle.tm_layout.specs.Reached.{types_at}
use Rattle.tm_layout.proofs.ReachedLemmas.{IsReaching}
use Rattle.tm_layout.proofs.reached.reached_types.Given as goal

abbrev pub invariant-loop-place : goal.invariant-loop-place
invariant-loop-place l = IsReaching (tables_of l.world) l.g l.place l.named.items l.refs.items (types_at l.types.items)

abbrev pub decreases-loop-place : goal.decreases-loop-place
decreases-loop-place l = 2 ^ 64 - l.place
