-- What was read is all that the text has, and each token stands where it says.
use Rattle.tm_lex.proofs.ResultLemmas.{where_tokenized, where_faulty}
use Rattle.tm_lex.proofs.PlaceLemmas.{answers_pieces, answers_in_order}
use Rattle.tm_lex.proofs.lexing.lex.Goals as goal

pub returns-clause-tokenizes : goal.returns-clause-tokenizes
returns-clause-tokenizes c = where_tokenized c.args.text.now (λ v. v.items) c.read.result c.read.ensures.tokens c.read.ensures.fault

pub returns-clause-faults : goal.returns-clause-faults
returns-clause-faults c = where_faulty c.args.text.now (λ v. v.items) c.read.result c.read.ensures.tokens c.read.ensures.fault

pub returns-clause-pieces : goal.returns-clause-pieces
returns-clause-pieces c = answers_pieces c.args.text.now (λ v. v.items) c.read.result c.utf8.text c.read.ensures.tokens

pub returns-clause-order : goal.returns-clause-order
returns-clause-order c = answers_in_order c.args.text.now (λ v. v.items) c.read.result c.utf8.text c.read.ensures.tokens
