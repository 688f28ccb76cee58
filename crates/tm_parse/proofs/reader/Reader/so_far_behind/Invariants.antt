use Rattle.std.proofs.Common.{◌-◌, length}
use Rattle.tm_parse.proofs.reading.SoFar.{SoFar, all_turns}
use Rattle.tm_parse.proofs.reader.Reader.so_far_behind.Given as goal

abbrev pub invariant-loop : goal.invariant-loop
invariant-loop g l =
    let rule = g.R.Rule.rule l.fn.rule in
    SoFar rule (all_turns rule l.fn.self.counts l.fn.self.rest.now) l.fn.found l.found (length l.fn.self.rest.now - l.counter) l.self.counts l.self.rest.now
