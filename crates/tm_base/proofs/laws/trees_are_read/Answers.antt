use Rattle.tm_base.specs.Transmutes.{holds}
use Rattle.tm_base.proofs.TreeLemmas.{trees-read}
use Rattle.tm_base.proofs.laws.trees_are_read.Goals as goal

pub returns : goal.returns
returns c = λ pointer test keep. trees-read pointer (holds test) keep
