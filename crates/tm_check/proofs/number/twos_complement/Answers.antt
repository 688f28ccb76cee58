use Rattle.tm_check.proofs.NumberLemmas.{power-fits}
use Rattle.tm_check.proofs.number.twos_complement.Goals as goal

pub pow-requires : goal.pow-requires
pow-requires c = power-fits c.args.size c.requires.few
