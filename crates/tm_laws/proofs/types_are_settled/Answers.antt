use Rattle.tm_laws.proofs.known.ValidLemmas.{settled}
use Rattle.tm_laws.proofs.types_are_settled.Goals as goal

pub returns : goal.returns
returns c = settled
