use Rattle.tm_run.specs.Examined.{IsStop}
use Rattle.tm_run.proofs.files.FaultLemmas.{passed_on}
use Rattle.tm_run.proofs.examining.examine.Goals as goal

pub returns-in_err-text-clause-stop : goal.returns-in_err-text-clause-stop
returns-in_err-text-clause-stop c =
    passed_on (IsStop c.args.options.now c.args.file.now) c.from_residual.result c.in_err-text.field-0.0 c.from_residual.ensures.1 (c.in_err-text.ensures.stop c.args.options.now)
