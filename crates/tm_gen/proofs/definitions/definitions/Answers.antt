use Rattle.std.proofs.Common.{rules}
use Rattle.tm_gen.specs.Generated.{definition_text}
use Rattle.tm_gen.proofs.NumberedLemmas.{numbered-none, numbered-more}
use Rattle.tm_gen.proofs.definitions.definitions.Goals as goal

pub loop-number-init : goal.loop-number-init
loop-number-init c = rw (numbered-none definition_text c.args.draws.now) (search rules)

pub loop-number-preserved : goal.loop-number-preserved
loop-number-preserved c = rw (numbered-more definition_text c.loop-number.number c.args.draws.now) (search rules)
