use Rattle.tm_run.specs.Examined.{IsStop}
use Rattle.tm_run.proofs.files.ClosingLemmas.{few-asked, there-asked}
use Rattle.tm_run.proofs.files.DecideLemmas.{report_decides, report_stops}
use Rattle.tm_run.proofs.files.FaultLemmas.{passed_on}
use Rattle.tm_run.proofs.inputs.judged.Goals as goal

pub reported-requires-clause-few : goal.reported-requires-clause-few
reported-requires-clause-few c = few-asked c.args.options.now c.args.file.now c.in_ok-world.world c.in_ok-world.ensures.world

pub reported-requires-clause-there : goal.reported-requires-clause-there
reported-requires-clause-there c = there-asked c.args.options.now c.args.file.now c.in_ok-world.world c.in_ok-world.ensures.world

pub reported-requires-clause-utf8 : goal.reported-requires-clause-utf8
reported-requires-clause-utf8 c = c.in_ok-world.ensures.world.answerable.names.spelled.lexed.utf8

pub returns-in_err-outcome-clause-stop : goal.returns-in_err-outcome-clause-stop
returns-in_err-outcome-clause-stop c =
    passed_on (IsStop c.args.options.now c.args.file.now) c.from_residual-in_err-outcome.result c.in_err-outcome.field-0.0 c.from_residual-in_err-outcome.ensures.1
    (report_stops c.args.options.now c.args.file.now c.in_ok-world.world c.in_ok-world.ensures.world c.in_err-outcome.field-0.0 c.in_err-outcome.ensures.stop)

pub returns-clause-report : goal.returns-clause-report
returns-clause-report c =
    report_decides c.args.options.now c.args.file.now c.in_ok-world.world c.in_ok-outcome.outcome.0 c.in_ok-outcome.outcome.1 c.in_ok-world.ensures.world c.in_ok-outcome.ensures.report
