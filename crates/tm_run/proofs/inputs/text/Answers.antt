use Rattle.std.proofs.Common.{◌<◌, ◌≤◌, inl, inr, refl, subst, None, length, arith}
use Rattle.tm_base.specs.declared.limit.LimitKind.TheVariants.{TextBytes}
use Rattle.tm_refute.specs.LinesRead.{IsFaultOf}
use Rattle.tm_refute.specs.declared.stop.TextErr.{TextErr}
use Rattle.tm_report.specs.declared.fault.FileFault.TheVariants.{BadRefutation, Passed}
use Rattle.tm_run.specs.Inputs.{text_bytes}
use Rattle.tm_run.proofs.runs.InputLemmas.{text-decides}
use Rattle.tm_run.proofs.inputs.text.Goals as goal

pub returns-then-input-number-clause-stop : goal.returns-then-input-number-clause-stop
returns-then-input-number-clause-stop c =
    let long : text_bytes < length c.args.input.now = let limit = c.number.ensures in let more = c.if-input-number.true in omega (arith, limit, more) in
    text-decides c.args.options.now c.args.input.now (Passed TextBytes None) c.requires (inl (refl, long))

pub returns-in-Err-At-clause-stop : goal.returns-in-Err-At-clause-stop
returns-in-Err-At-clause-stop c =
    let short : length c.args.input.now ≤ text_bytes = let limit = c.number.ensures in let no_more = c.if-input-number.false in omega (arith, limit, no_more) in
    let bad = subst (λ (e : TextErr). IsFaultOf c.pointer.result c.args.input.now e) c.in-Err-At.field-0-is c.in-Err-At.ensures.bad in
    text-decides c.args.options.now c.args.input.now (BadRefutation c.in-Err-At.line) c.requires
    (inr (c.in-Err-At.line, refl, record { short = short; bad = rw c.pointer.ensures.size at bad }))
