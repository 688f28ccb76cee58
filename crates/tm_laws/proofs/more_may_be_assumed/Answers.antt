use Rattle.tm_base.specs.Tables.{expanded_in}
use Rattle.tm_base.proofs.AssumeLemmas.{casts-assume}
use Rattle.tm_laws.proofs.known.ValidLemmas.{settled}
use Rattle.tm_laws.proofs.more_may_be_assumed.Goals as goal

pub returns : goal.returns
returns c = λ tables more less includes g h cast. casts-assume tables more less includes (λ k. settled (expanded_in tables k)) g h cast
