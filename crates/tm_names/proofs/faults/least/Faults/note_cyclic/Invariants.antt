use Rattle.std.proofs.Common.{◌≡◌, drop}
use Rattle.std.specs.List.{enumerate_from, flat_map}
use Rattle.tm_names.specs.Closures.{infinite_fault}
use Rattle.tm_names.specs.Held.{bit_at, row_at}
use Rattle.tm_names.specs.Least.{earliest}
use Rattle.tm_names.proofs.faults.least.Faults.note_cyclic.Given as goal

abbrev pub invariant-loop-number : goal.invariant-loop-number
invariant-loop-number l = record {
  file : l.self.file ≡ l.initial.self.file;
  all : earliest l.self.first (flat_map (infinite_fault (λ i. bit_at (row_at l.closed i) i)) (enumerate_from l.number (drop l.number l.decls)))
      ≡ earliest l.initial.self.first (flat_map (infinite_fault (λ i. bit_at (row_at l.fn.closed i) i)) (enumerate_from 0 l.fn.decls));
}
