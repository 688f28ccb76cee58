use Rattle.tm_base.specs.Worlds.{tables_of}
use Rattle.tm_laws.proofs.known.AnswerMeanings.{answer-means}
use Rattle.tm_laws.proofs.answers.answers_mean_what_they_say.Goals as goal

pub returns : goal.returns
returns c = λ ask answer h. answer-means (tables_of c.args.world.now) ask answer h.is_true
