use Rattle.std.proofs.Common.{sym}
use Rattle.tm_layout.proofs.TableLemmas.{known-made}
use Rattle.tm_layout.proofs.written.facts_of_named.Goals as goal

pub returns-in-Some : goal.returns-in-Some
returns-in-Some c = λ tables are known. (are.right c.args.id.0 c.in-Some.row.now (sym c.in-Some.ensures)).facts

pub returns-in-None : goal.returns-in-None
returns-in-None c = λ tables are known. absurd (known-made tables c.args.rows.now c.args.id are known (sym c.in-None.ensures))
