use Rattle.std.proofs.Common.{◌≡◌, ◌<◌, length}
use Rattle.tm_base.specs.declared.cell.RefId.{RefId}
use Rattle.tm_base.specs.Worlds.{tables_of}
use Rattle.tm_refs.specs.Leaves.{leads_in}
use Rattle.tm_refs.specs.Looks.{leads_to}
use Rattle.tm_refs.proofs.leaves.Leaves.new.Given as goal

-- the leaves of the pointees so far
abbrev pub invariant-loop-row : goal.invariant-loop-row
invariant-loop-row l = record {
  count : length l.rows.items ≡ l.row-index;
  exact : (r x : RefId) → r.0 < l.row-index → leads_in l.rows.items r x ≡ leads_to (tables_of l.fn.world) r x;
}
