use Rattle.std.proofs.Common.{rules, append_assoc}
use Rattle.tm_niche.specs.Forms.{first_nonzero}
use Rattle.tm_niche.proofs.nonzero.first_nonzero.Goals as goal

pub returns : goal.returns
unfolding first_nonzero
returns c = search (rules, append_assoc)
