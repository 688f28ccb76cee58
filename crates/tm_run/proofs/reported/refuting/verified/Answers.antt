use Rattle.tm_run.proofs.answers.RefuteLemmas.{question-over}
use Rattle.tm_run.proofs.reported.refuting.verified.Goals as goal

pub verify-requires-clause-source : goal.verify-requires-clause-source
verify-requires-clause-source c = (question-over c.args.world.now c.args.number c.question.result.now c.question.ensures).0

pub verify-requires-clause-target : goal.verify-requires-clause-target
verify-requires-clause-target c = (question-over c.args.world.now c.args.number c.question.result.now c.question.ensures).1
