use Rattle.std.proofs.Common.{◌≡◌, ℕ, ◌<◌, ◌≤◌, ◌||◌, false, slice_index_or}
use Rattle.tm_region.proofs.row.join.Given as goal

-- what stands in either row stands in the first, as far as the loop has come
abbrev pub invariant-loop-place : goal.invariant-loop-place
invariant-loop-place l = record {
  joined : (b : ℕ) → b < l.place → slice_index_or l.row b false ≡ (slice_index_or l.fn.row b false || slice_index_or l.other b false);
  rest : (b : ℕ) → l.place ≤ b → slice_index_or l.row b false ≡ slice_index_or l.fn.row b false;
}
