use Rattle.std.proofs.Common.{◌≡◌, ℕ, ◌<◌, ◌≤◌, ◌&&◌, ◌||◌, [], slice_index_or}
use Rattle.tm_region.specs.Table.{has}
use Rattle.tm_region.proofs.order.Order.add.Given as goal

-- the rows so far have what the bound adds, and the others are as they were
abbrev pub invariant-loop-row : goal.invariant-loop-row
invariant-loop-row l = record {
  added : (a b : ℕ) → a < l.row-index → has l.row-items a b ≡ (has l.fn.self a b || (has l.fn.self a l.bound.longer.0 && has l.fn.self l.bound.shorter.0 b));
  rest : (a : ℕ) → l.row-index ≤ a → slice_index_or l.row-items a [] ≡ slice_index_or l.fn.self a [];
}
