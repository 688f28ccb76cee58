use Rattle.std.proofs.Common.{◌≡◌, ℕ, ◌<◌, ◌≤◌, length, slice_index_or}
use Rattle.tm_base.specs.Worlds.{tables_of}
use Rattle.tm_refs.specs.declared.standing.Standing.TheVariants.{Unjudged}
use Rattle.tm_refs.specs.Rounds.{IsFirst}
use Rattle.tm_refs.proofs.first.first_row.Given as goal

-- the targets so far are right, and nothing is known of the others
abbrev pub invariant-loop-target : goal.invariant-loop-target
invariant-loop-target l = record {
  length : length l.row ≡ 64;
  done : (t : ℕ) → t < l.target → IsFirst (tables_of l.world) l.assume l.source.0 t (slice_index_or l.row t Unjudged);
  others : (t : ℕ) → l.target ≤ t → slice_index_or l.row t Unjudged ≡ Unjudged;
}
