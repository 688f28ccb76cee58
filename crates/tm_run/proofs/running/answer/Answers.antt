use Rattle.std.proofs.Common.{subst}
use Rattle.tm_run.specs.Runs.{IsInputStop}
use Rattle.tm_run.specs.declared.stop.Stop.{Stop}
use Rattle.tm_run.proofs.runs.InputLemmas.{stop-answers}
use Rattle.tm_run.proofs.running.answer.Goals as goal

pub returns-in-Err-Fault : goal.returns-in-Err-Fault
returns-in-Err-Fault g c =
    let stop = subst (λ (stop : Stop). IsInputStop c.args.options.now c.args.input.now stop) c.in-Err-Fault.field-0-is c.in-Err-Fault.ensures.stop in
    stop-answers c.args.options.now c.args.input.now c.in-Err-Fault.fault _ _ _ _ _ stop c.decline.ensures
