use Rattle.std.proofs.Common.{◌≡◌, length}
use Rattle.tm_io.proofs.ToldLemmas.{AddsUpTo}
use Rattle.tm_io.proofs.writing.write_all.Given as goal

-- no fault was counted, and what was added is all that stands before the rest
abbrev pub invariant-loop-rest : goal.invariant-loop-rest
invariant-loop-rest g l = record {
  kept : g.K.Sink.faults l.sink ≡ g.K.Sink.faults l.fn.sink;
  added : AddsUpTo (g.K.Sink.written l.fn.sink) (g.K.Sink.written l.sink) l.fn.bytes l.rest;
}

-- each turn adds at least one byte or fails
abbrev pub decreases-loop-rest : goal.decreases-loop-rest
decreases-loop-rest g l = length l.rest
