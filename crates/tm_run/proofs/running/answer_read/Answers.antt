use Rattle.std.proofs.Common.{◌≡◌, ◌≤◌, ◌∙◌, ℕ, List, None, Err, length, ap, subst, arith}
use Rattle.tm_base.specs.declared.limit.LimitKind.{LimitKind}
use Rattle.tm_base.specs.Limits.{limit_number}
use Rattle.tm_report.specs.declared.fault.FileFault.TheVariants.{Passed}
use Rattle.tm_run.specs.Inputs.{input_limit}
use Rattle.tm_run.specs.Runs.{Answers, Declines}
use Rattle.tm_run.proofs.runs.DoneLemmas.{declined-did, read-did}
use Rattle.tm_run.proofs.running.answer_read.Goals as goal

pub returns-in-Ok : goal.returns-in-Ok
returns-in-Ok g c =
    let kept : g.S.Source.faults c.read_all.new.src ≡ g.S.Source.faults c.args.src.now = c.in-Ok.ensures.kept (λ e. cc) in
    let short : length c.in-Ok.input.items ≤ limit_number (input_limit c.args.options.now) = let len = c.in-Ok.input.ok.0 in let bound = c.in-Ok.ensures.short in let limit = c.number.ensures ∙ ap limit_number c.input_limit-limit.ensures in omega (arith, len, bound, limit) in
    let whole = subst (λ (bytes : List ℕ). Answers (g.K.Sink.written c.args.out.now) (g.K.Sink.written c.answer.new.out) (g.K.Sink.faults c.args.out.now) (g.K.Sink.faults c.answer.new.out) c.args.options.now bytes c.answer.result) c.deref.ensures.value c.answer.ensures in
    read-did c.args.options.now _ _ _ _ _ _ _ _ _ c.requires c.in-Ok.input.items kept c.in-Ok.ensures.all short whole

pub returns-in-Err-TooLong : goal.returns-in-Err-TooLong
returns-in-Err-TooLong g c =
    let kept : g.S.Source.faults c.read_all.new.src ≡ g.S.Source.faults c.args.src.now = c.in-Err-TooLong.ensures.kept (λ e. cc) in
    declined-did c.args.options.now _ _ _ _ _ _ _ _ _ c.requires kept (rw (c.number.ensures ∙ ap limit_number c.input_limit-limit.ensures) at (c.in-Err-TooLong.ensures.long (ap Err c.in-Err-TooLong.field-0-is)))
    (subst (λ (kind : LimitKind). Declines (g.K.Sink.written c.args.out.now) (g.K.Sink.written c.decline.new.out) (g.K.Sink.faults c.args.out.now) (g.K.Sink.faults c.decline.new.out) (Passed kind None) c.decline.result) c.input_limit-limit.ensures c.decline.ensures)
