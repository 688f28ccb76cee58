use Rattle.std.proofs.Common.{◌≡◌, ◌-◌, ◌≤◌, vec_len}
use Rattle.std.specs.Io.KnownBytes.{Consumes}
use Rattle.tm_io.proofs.reading.read_all.Given as goal

-- no fault was counted, and the bytes so far are what was taken
abbrev pub invariant-loop-piece : goal.invariant-loop-piece
invariant-loop-piece g l = record {
  kept : g.S.Source.faults l.src ≡ g.S.Source.faults l.fn.src;
  short : vec_len l.bytes ≤ l.most;
  taken : Consumes (g.S.Source.left l.fn.src) (g.S.Source.left l.src) l.bytes.items;
}

-- each turn takes at least one byte, ends the input or fails
abbrev pub decreases-loop-piece : goal.decreases-loop-piece
decreases-loop-piece g l = l.most - vec_len l.bytes
