use Rattle.tm_base.specs.Worlds.{tables_of}
use Rattle.tm_base.proofs.AnswerLemmas.{IsAnswer-unique}
use Rattle.tm_laws.proofs.known.AnswerLemmas.{answer_to}
use Rattle.tm_laws.proofs.each_question_has_an_answer.Goals as goal

pub returns-clause-some : goal.returns-clause-some
returns-clause-some c = λ ask src_over dst_over. answer_to c.args.world.now ask src_over dst_over

pub returns-clause-only : goal.returns-clause-only
returns-clause-only c = λ ask src_over dst_over apart a b first second. IsAnswer-unique (tables_of c.args.world.now) ask apart a b first second
