use Rattle.std.proofs.Common.{◌+◌, ◌-◌, ◌≤◌, length}
use Rattle.tm_base.specs.Worlds.{tables_of}
use Rattle.tm_refs.specs.Looks.{all_pairs, dependents}
use Rattle.tm_refs.specs.Rounds.{IsEnough, IsSettled, IsTable, gone}
use Rattle.tm_refs.proofs.rounds.Rounds.solve.Given as goal

-- The table is right to its depth; what has to be looked at next is asked; and each look so far, and each that is asked,
-- is one at a first pair or one at a dependent of a pair that is gone.
abbrev pub invariant-rounds : goal.invariant-rounds
invariant-rounds g l = record {
  table : IsTable (tables_of l.self.world.now) l.self.assume l.table.depth l.table.rows.items;
  settled : IsSettled (tables_of l.self.world.now) l.self.assume l.table.depth l.table.rows.items;
  enough : IsEnough (tables_of l.self.world.now) l.self.assume l.table.depth l.table.rows.items l.asked.items;
  looks :
      l.looks + length l.asked.items
      ≤ l.fn.looks + (length (all_pairs (tables_of l.self.world.now)) + gone (dependents (tables_of l.self.world.now)) (all_pairs (tables_of l.self.world.now)) l.table.rows.items);
  depth : l.table.depth ≤ gone (λ pair. 1) (all_pairs (tables_of l.self.world.now)) l.table.rows.items;
}

-- the pairs that are still held
abbrev pub decreases-rounds : goal.decreases-rounds
decreases-rounds g l =
    length (all_pairs (tables_of l.self.world.now)) - gone (λ pair. 1) (all_pairs (tables_of l.self.world.now)) l.table.rows.items
