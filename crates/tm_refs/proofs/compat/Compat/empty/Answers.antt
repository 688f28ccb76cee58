use Rattle.tm_refs.proofs.ServesLemmas.{empty-serves}
use Rattle.tm_refs.proofs.compat.Compat.empty.Goals as goal

pub returns : goal.returns
returns c = λ tables g none. empty-serves tables c.args.assume g _ (cc) none
