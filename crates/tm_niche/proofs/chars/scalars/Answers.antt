use Rattle.std.proofs.Common.{rules}
use Rattle.tm_niche.specs.Forms.{scalars}
use Rattle.tm_niche.proofs.chars.scalars.Goals as goal

pub returns : goal.returns
unfolding scalars
returns c = search rules
