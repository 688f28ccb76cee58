use Rattle.std.proofs.Common.{sym, subst}
use Rattle.tm_refute.specs.Taken.{ReadsAll, IsWholeNumber}
use Rattle.tm_refute.proofs.forms.NumberLemmas.{more-behind, none-whole, not-empty}
use Rattle.tm_refute.proofs.text.reader.whole_number.Goals as goal

pub returns-in_err-number : goal.returns-in_err-number
returns-in_err-number c = subst (ReadsAll IsWholeNumber c.args.text.now) (sym c.from_residual.ensures) (none-whole c.args.text.now c.in_err-number.ensures)

pub returns-then-not-is_empty : goal.returns-then-not-is_empty
returns-then-not-is_empty c = more-behind c.args.text.now c.in_ok-number.number c.number.new.self.rest.now c.in_ok-number.ensures (not-empty c.number.new.self.rest.now c.is_empty.result c.if-not-is_empty.true c.is_empty.ensures)
