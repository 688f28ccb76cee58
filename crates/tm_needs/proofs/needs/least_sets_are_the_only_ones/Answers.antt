use Rattle.tm_needs.proofs.LeastLemmas.{least-unique}
use Rattle.tm_needs.proofs.needs.least_sets_are_the_only_ones.Goals as goal

pub returns : goal.returns
returns c = least-unique
