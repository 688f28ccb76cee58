use Rattle.std.proofs.Common.{◌≡◌, ℕ, None, length}
use Rattle.tm_layout.specs.Made.{row_at}
use Rattle.tm_layout.proofs.making.no_rows.Given as goal

abbrev pub invariant-loop : goal.invariant-loop
invariant-loop l = record {
  count : length l.rows.items ≡ l.counter;
  none : (k : ℕ) → row_at l.rows.items k ≡ None;
}
