use Rattle.std.proofs.Common.{rules}
use Rattle.tm_gen.specs.Generated.{question_text}
use Rattle.tm_gen.proofs.NumberedLemmas.{numbered-none, numbered-more}
use Rattle.tm_gen.proofs.questions.questions.Goals as goal

pub loop-init : goal.loop-init
loop-init c = rw (numbered-none (λ q. question_text) c.args.draws.now) (search rules)

pub loop-preserved : goal.loop-preserved
loop-preserved c = rw (numbered-more (λ q. question_text) c.loop.counter c.args.draws.now) (search rules)
