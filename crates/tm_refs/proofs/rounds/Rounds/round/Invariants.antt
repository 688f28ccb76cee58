use Rattle.std.proofs.Common.{◌≡◌, ◌+◌, ◌≤◌, suc, take, true}
use Rattle.std.specs.List.{Contains}
use Rattle.tm_base.specs.Worlds.{tables_of}
use Rattle.tm_refs.specs.declared.pair.Pair.{Pair}
use Rattle.tm_refs.specs.Rounds.{AgreesTo, AreLost, IsSettled, IsTable}
use Rattle.tm_refs.specs.Standings.{is_held}
use Rattle.tm_refs.proofs.rounds.Rounds.round.Given as goal

-- the pairs so far are looked at, and those that failed are lost
abbrev pub invariant-loop-pair : goal.invariant-loop-pair
invariant-loop-pair g l = record {
  depth : l.table.depth ≡ l.fn.table.depth;
  table : IsTable (tables_of l.self.world.now) l.self.assume l.fn.table.depth l.table.rows.items;
  settled : IsSettled (tables_of l.self.world.now) l.self.assume (suc l.fn.table.depth) l.table.rows.items;
  losses : AreLost (tables_of l.self.world.now) l.self.assume l.fn.table.rows.items l.table.rows.items l.lost.items;
  passed :
      (pair : Pair) → Contains (take l.pair-index l.asked) pair → is_held l.table.rows.items pair ≡ true
      → AgreesTo (tables_of l.self.world.now) l.self.assume (suc l.fn.table.depth) pair;
  looks : l.looks ≤ l.fn.looks + l.pair-index;
}
