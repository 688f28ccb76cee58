use Rattle.std.proofs.Common.{arith, subst}
use Rattle.std.specs.List.{All}
use Rattle.tm_base.specs.Cells.{Word}
use Rattle.tm_report.specs.WordTexts.{IsCell}
use Rattle.tm_refute.proofs.forms.WrittenLemmas.{piece-back}
use Rattle.tm_refute.proofs.text.writing.write_piece.Goals as goal

pub returns-clause-form : goal.returns-clause-form
returns-clause-form c = piece-back c.args.piece.now (omega arith) (subst (λ (w : Word). All IsCell w) c.as_slice.ensures c.in_ok-word.ensures.numbers)
