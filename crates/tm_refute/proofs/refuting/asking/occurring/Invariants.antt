use Rattle.std.proofs.Common.{◌≡◌, ℕ, ◌<◌, false, length, take, slice_index_or}
use Rattle.std.specs.List.{list_any}
use Rattle.tm_refute.specs.Asking.{is_of}
use Rattle.tm_refute.proofs.refuting.asking.occurring.Given as goal

-- the references of the cells so far are marked
abbrev pub invariant-loop-cell : goal.invariant-loop-cell
invariant-loop-cell l = record {
  room : length l.found ≡ 64;
  marked : (r : ℕ) → r < 64 → slice_index_or l.found r false ≡ list_any (λ cell. is_of cell r) (take l.cell-index l.cells);
}
