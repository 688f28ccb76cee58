use Rattle.std.proofs.Common.{◌≡◌, ℕ, ◌<◌, false}
use Rattle.tm_base.specs.Worlds.{tables_of}
use Rattle.tm_layout.specs.Made.{is_missing}
use Rattle.tm_layout.specs.Making.{AreRowsClosed}
use Rattle.tm_layout.proofs.making.make_rows.Given as goal

-- the rows of the first named types are made
abbrev pub invariant-loop-k : goal.invariant-loop-k
invariant-loop-k l = record {
  closed : AreRowsClosed (tables_of l.world) l.rows.items;
  made : (j : ℕ) → j < l.k → is_missing l.rows.items j ≡ false;
}
