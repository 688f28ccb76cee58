use Rattle.tm_refute.proofs.checking.LawLemmas.{refuted}
use Rattle.tm_refute.proofs.law.refutations_are_true.Goals as goal

pub returns : goal.returns
returns c = refuted
