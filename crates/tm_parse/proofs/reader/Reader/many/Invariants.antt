use Rattle.std.proofs.Common.{◌-◌, length, true}
use Rattle.tm_parse.specs.Combinators.{to}
use Rattle.tm_parse.specs.Shapes.{many}
use Rattle.tm_parse.proofs.reading.Loops.{Goes}
use Rattle.tm_parse.proofs.reader.Reader.many.Given as goal

abbrev pub invariant-loop : goal.invariant-loop
invariant-loop g l =
    let rule = g.R.Rule.rule l.fn.rule in
    Goes rule.first (to (λ v. (v, true)) rule).read ((many rule).read l.fn.self.counts l.fn.self.rest.now) l.found (length l.fn.self.rest.now - l.counter) l.self.counts l.self.rest.now
