use Rattle.std.proofs.Common.{rules}
use Rattle.tm_gen.specs.Generated.{member_line}
use Rattle.tm_gen.proofs.NumberedLemmas.{numbered-none, numbered-more}
use Rattle.tm_gen.proofs.definitions.members.Goals as goal

pub loop-place-init : goal.loop-place-init
loop-place-init c = rw (numbered-none (member_line c.args.kind c.args.definition) c.args.draws.now) (search rules)

pub loop-place-preserved : goal.loop-place-preserved
loop-place-preserved c = rw (numbered-more (member_line c.args.kind c.args.definition) c.loop-place.place c.args.draws.now) (search rules)
