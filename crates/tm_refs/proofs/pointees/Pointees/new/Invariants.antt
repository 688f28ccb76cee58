use Rattle.std.proofs.Common.{◌≡◌, ℕ, ◌<◌, Some, length, slice_get}
use Rattle.tm_base.specs.declared.definition.RefRow.{RefRow}
use Rattle.tm_base.specs.Worlds.{tables_of}
use Rattle.tm_refs.specs.Pointees.{IsPointeeAnswer, pointee_at}
use Rattle.tm_refs.proofs.pointees.Pointees.new.Given as goal

-- the pointees of the references so far
abbrev pub invariant-loop-row : goal.invariant-loop-row
invariant-loop-row l = record {
  count : length l.items.items ≡ l.row-index;
  each :
      (r : ℕ) (row : RefRow) → r < l.row-index → slice_get (tables_of l.fn.world).refs r ≡ Some row
      → IsPointeeAnswer (tables_of l.fn.world) l.fn.assume row.pointee (pointee_at l.items.items r);
}
