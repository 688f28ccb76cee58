use Rattle.tm_refute.proofs.chosen.AloneLemmas.{refutation-one}
use Rattle.tm_refute.proofs.law.questions_have_one_refutation.Goals as goal

pub returns : goal.returns
returns c = refutation-one
