use Rattle.std.proofs.Common.{◌≡◌, ℕ, ◌<◌, length}
use Rattle.tm_base.specs.Worlds.{tables_of}
use Rattle.tm_refs.specs.Rounds.{IsFirst}
use Rattle.tm_refs.specs.Standings.{standing_in}
use Rattle.tm_refs.proofs.first.first_table.Given as goal

-- the rows of the sources so far are right
abbrev pub invariant-loop-source : goal.invariant-loop-source
invariant-loop-source l = record {
  count : length l.rows.items ≡ l.source;
  done : (r t : ℕ) → r < l.source → IsFirst (tables_of l.fn.world) l.fn.assume r t (standing_in l.rows.items r t);
}
