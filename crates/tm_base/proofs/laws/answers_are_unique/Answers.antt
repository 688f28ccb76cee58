use Rattle.tm_base.proofs.AnswerLemmas.{IsAnswer-unique}
use Rattle.tm_base.proofs.laws.answers_are_unique.Goals as goal

pub returns : goal.returns
returns c = IsAnswer-unique
