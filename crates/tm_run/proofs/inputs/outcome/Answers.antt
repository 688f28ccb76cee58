use Rattle.tm_run.proofs.runs.InputLemmas.{asks-itself, judged-report, judged-stop}
use Rattle.tm_run.proofs.inputs.outcome.Goals as goal

pub returns-else-options-clause-report : goal.returns-else-options-clause-report
returns-else-options-clause-report c =
    judged-report c.args.options.now c.args.input.now c.args.options.now c.args.input.now (asks-itself c.args.options.now c.args.input.now c.if-options.false) c.judged.result c.judged.ensures.report

pub returns-else-options-clause-stop : goal.returns-else-options-clause-stop
returns-else-options-clause-stop c =
    judged-stop c.args.options.now c.args.input.now c.args.options.now c.args.input.now (asks-itself c.args.options.now c.args.input.now c.if-options.false) c.judged.result c.judged.ensures.stop
