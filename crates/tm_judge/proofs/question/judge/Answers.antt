use Rattle.tm_refs.proofs.ServesLemmas.{solved-serves}
use Rattle.tm_judge.proofs.question.judge.Goals as goal

pub judge_values-requires-clause-serves : goal.judge_values-requires-clause-serves
judge_values-requires-clause-serves g c = solved-serves _ _ _ _ c.requires.solved
