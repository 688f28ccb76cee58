use Rattle.tm_ground.proofs.finding.CollectedLemmas.{few-types, few-nodes, are-whole}
use Rattle.tm_ground.proofs.closing.find_within_limits.Goals as goal

pub returns-clause-whole : goal.returns-clause-whole
returns-clause-whole c = are-whole c.args.resolved.now c.close.new.self c.in-Ok.ensures c.if-collector.false c.if-collector-2.false

pub returns-then-collector-clause-cause : goal.returns-then-collector-clause-cause
returns-then-collector-clause-cause c = (few-types c.args.resolved.now c.close.new.self c.in-Ok.ensures, c.in-Ok.ensures.sound.big c.if-collector.true)

pub returns-then-collector-2-clause-cause : goal.returns-then-collector-2-clause-cause
returns-then-collector-2-clause-cause c =
    (few-types c.args.resolved.now c.close.new.self c.in-Ok.ensures, few-nodes c.args.resolved.now c.close.new.self c.in-Ok.ensures c.if-collector.false, c.in-Ok.ensures.sound.many_refs c.if-collector-2.true)
