use Rattle.std.proofs.Common.{◌≡◌, length, take}
use Rattle.tm_region.proofs.TableLemmas.{IsTableOf}
use Rattle.tm_region.proofs.order.Order.of_bounds.Given as goal

-- the table is that of the bounds so far
abbrev pub invariant-loop-bound : goal.invariant-loop-bound
invariant-loop-bound l = record {
  table : IsTableOf (take l.bound-index l.bounds) l.order;
  count : length l.order ≡ l.fn.count;
}
