use Rattle.std.proofs.Common.{arith}
use Rattle.tm_refute.proofs.reading.RunLemmas.{bad-times}
use Rattle.tm_refute.proofs.text.part.times.Goals as goal

pub returns-then-times-eq0 : goal.returns-then-times-eq0
returns-then-times-eq0 c = bad-times c.args.text.now c.accept.new.self.rest.now c.if-not-accept.ensures c.in_ok-times.times c.in_ok-times.ensures (λ some. absurd (omega (arith, c.if-times-eq0.true, some.0)))

pub returns-then-times-gt65536 : goal.returns-then-times-gt65536
returns-then-times-gt65536 c = bad-times c.args.text.now c.accept.new.self.rest.now c.if-not-accept.ensures c.in_ok-times.times c.in_ok-times.ensures (λ some. absurd (omega (arith, c.if-times-gt65536.true, some.1)))
