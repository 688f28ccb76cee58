use Rattle.tm_base.specs.Worlds.{tables_of}
use Rattle.tm_laws.proofs.known.AnswerMeanings.{no-shows_why}
use Rattle.tm_laws.proofs.answers.noes_show_why.Goals as goal

pub returns : goal.returns
returns c = λ ask answer h. no-shows_why (tables_of c.args.world.now) ask answer h.is_true
