use Rattle.std.proofs.Common.{◌≡◌, ◌↔◌, ℕ, ◌<◌, IsTrue, Some, length, slice_get}
use Rattle.tm_base.specs.declared.definition.RefRow.{RefRow}
use Rattle.tm_base.specs.Reaches.{IsJudged}
use Rattle.tm_base.specs.Worlds.{tables_of}
use Rattle.tm_refute.specs.Judged.{judged_at}
use Rattle.tm_refute.proofs.judged.Judged.new.Given as goal

-- so it is of the references so far
abbrev pub invariant-loop-row : goal.invariant-loop-row
invariant-loop-row l = record {
  count : length l.items.items ≡ l.row-index;
  each :
      (r : ℕ) (row : RefRow) → r < l.row-index → slice_get (tables_of l.fn.world).refs r ≡ Some row
      → IsTrue (judged_at l.items.items r) ↔ IsJudged (tables_of l.fn.world) row.pointee;
}
