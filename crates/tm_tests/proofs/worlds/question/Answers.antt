use Rattle.std.proofs.Common.{sym}
use Rattle.tm_run.proofs.answers.OverLemmas.{asked-over}
use Rattle.tm_tests.proofs.worlds.question.Goals as goal

pub returns-clause-source : goal.returns-clause-source
returns-clause-source c = (asked-over c.args.world.now c.args.number c.in_ok-ask.ask.now (sym c.in_ok-ask.ensures.item)).0

pub returns-clause-target : goal.returns-clause-target
returns-clause-target c = (asked-over c.args.world.now c.args.number c.in_ok-ask.ask.now (sym c.in_ok-ask.ensures.item)).1
