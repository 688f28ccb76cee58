use Rattle.tm_run.proofs.runs.InputLemmas.{asks-behind, judged-report, judged-stop}
use Rattle.tm_run.proofs.inputs.behind_text.Goals as goal

pub returns-clause-report : goal.returns-clause-report
returns-clause-report c =
    let asks = asks-behind c.args.options.now c.args.input.now c.to_verify-asked.result c.split_at.result.1.now c.requires c.in_ok-number.number c.in_ok-number.x _ c.in_ok-number.ensures.text c.split_at.ensures.back c.to_verify-asked.ensures in
    judged-report c.args.options.now c.args.input.now c.to_verify-asked.result c.split_at.result.1.now asks c.judged.result c.judged.ensures.report

pub returns-clause-stop : goal.returns-clause-stop
returns-clause-stop c =
    let asks = asks-behind c.args.options.now c.args.input.now c.to_verify-asked.result c.split_at.result.1.now c.requires c.in_ok-number.number c.in_ok-number.x _ c.in_ok-number.ensures.text c.split_at.ensures.back c.to_verify-asked.ensures in
    judged-stop c.args.options.now c.args.input.now c.to_verify-asked.result c.split_at.result.1.now asks c.judged.result c.judged.ensures.stop
