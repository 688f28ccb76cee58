use Rattle.std.proofs.Common.{ℕ, sym, subst}
use Rattle.std.specs.Str.{IsValidUpTo}
use Rattle.tm_report.specs.declared.fault.At.{At}
use Rattle.tm_report.specs.declared.fault.FileFault.TheVariants.{NotUtf8}
use Rattle.tm_run.specs.Examined.{IsOnlyFault}
use Rattle.tm_run.proofs.files.FaultLemmas.{broken_only}
use Rattle.tm_run.proofs.examining.decoded.Goals as goal

pub returns-in-Err-clause-stop : goal.returns-in-Err-clause-stop
returns-in-Err-clause-stop c = λ options.
    let (broken, front) = c.in-Err.ensures.cases in
    let one = broken_only options c.args.file.now c.valid_up_to.result (record {
      short = c.requires;
      broken = broken;
      front = subst (λ (n : ℕ). IsValidUpTo c.args.file.now n) (sym c.valid_up_to.ensures) front;
    }) in
    subst (λ (at : At). IsOnlyFault options c.args.file.now (NotUtf8 at)) (sym c.at.ensures) one
