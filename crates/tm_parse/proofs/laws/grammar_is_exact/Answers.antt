use Rattle.tm_parse.proofs.reading.AcceptedLaws.{answer_is_said, file_said, one_said, fault_said, limit_said}
use Rattle.tm_parse.proofs.laws.grammar_is_exact.Goals as goal

pub returns-clause-file : goal.returns-clause-file
returns-clause-file c = file_said

pub returns-clause-one_file : goal.returns-clause-one_file
returns-clause-one_file c v ts f w e spelled same = one_said v w ts e f spelled same

pub returns-clause-fault : goal.returns-clause-fault
returns-clause-fault c = fault_said

pub returns-clause-limit : goal.returns-clause-limit
returns-clause-limit c = limit_said

pub returns-clause-every : goal.returns-clause-every
returns-clause-every c = answer_is_said
