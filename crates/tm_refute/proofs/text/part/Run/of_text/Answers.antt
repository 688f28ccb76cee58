use Rattle.std.proofs.Common.{sym, subst}
use Rattle.tm_refute.specs.Runs.{IsRunText}
use Rattle.tm_refute.specs.Taken.{ReadsAll}
use Rattle.tm_refute.specs.declared.text.part.Run.{Run}
use Rattle.tm_refute.proofs.reading.RunLemmas.{back-times, front-part}
use Rattle.tm_refute.proofs.text.part.Run.of_text.Goals as goal

pub returns-in_err-part : goal.returns-in_err-part
returns-in_err-part c =
    subst (ReadsAll IsRunText c.args.text.now) (sym c.from_residual.ensures)
    (λ (run : Run) is. c.in_err-part.ensures run.part (front-part c.args.text.now c.until.result.now c.until.new.self.rest.now c.until.ensures run is))

pub returns-in_err-times : goal.returns-in_err-times
returns-in_err-times c =
    subst (ReadsAll IsRunText c.args.text.now) (sym c.from_residual-in_err-times.ensures)
    (λ (run : Run) is. c.in_err-times.ensures run.times (back-times c.args.text.now c.until.result.now c.until.new.self.rest.now c.until.ensures run is))
