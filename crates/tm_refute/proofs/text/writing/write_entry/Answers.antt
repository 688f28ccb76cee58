use Rattle.std.proofs.Common.{arith}
use Rattle.tm_refute.proofs.forms.WrittenLemmas.{entry-back}
use Rattle.tm_refute.proofs.text.writing.write_entry.Goals as goal

pub returns-clause-form : goal.returns-clause-form
returns-clause-form c = entry-back c.args.entry.now (omega arith) (omega arith) (omega arith) c.in_ok-write_proof.ensures.form
