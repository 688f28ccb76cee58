use Rattle.std.proofs.Common.{◌≡◌, ◌∙◌, ℕ, Bool, true, false, Option, Some, None, length, ap, sym, subst}
use Rattle.tm_base.specs.declared.limit.LimitKind.TheVariants.{MatrixTypes}
use Rattle.tm_run.specs.Asking.{is_no_question, lacks_question, number_asked, passes_mode}
use Rattle.tm_run.specs.Examined.{IsStop, stop_of}
use Rattle.tm_run.proofs.files.ClosingLemmas.{as-many, cause_stops, examined, limit_only, question_only}
use Rattle.tm_run.proofs.files.FaultLemmas.{passed_on}
use Rattle.tm_run.proofs.examining.closing.world.Goals as goal

pub returns-in_err-world-clause-stop : goal.returns-in_err-world-clause-stop
returns-in_err-world-clause-stop c = λ file m.
    passed_on (IsStop c.args.options.now file) c.from_residual.result (stop_of c.in_err-world.field-0.0) c.from_residual.ensures.1
    (cause_stops c.args.options.now file c.args.resolved.now m c.in_err-world.field-0.0 c.in_err-world.ensures.cause)

pub returns-then-passes_mode-clause-stop : goal.returns-then-passes_mode-clause-stop
returns-then-passes_mode-clause-stop c = λ file m.
    let mode = c.args.options.now.mode in
    let many = as-many c.args.resolved.now c.in_ok-world.world c.in_ok-world.ensures.world in
    limit_only c.args.options.now file c.args.resolved.now m MatrixTypes
    (c.in_ok-world.ensures.fits, ap (passes_mode mode) (sym many) ∙ ap (passes_mode mode) (sym c.len-questions.ensures) ∙ sym c.passes_mode.ensures ∙ c.if-passes_mode.true) (λ e. cc)

pub returns-in-Some-clause-stop : goal.returns-in-Some-clause-stop
returns-in-Some-clause-stop c = λ file m.
    let mode = c.args.options.now.mode in
    let many = as-many c.args.resolved.now c.in_ok-world.world c.in_ok-world.ensures.world in
    question_only c.args.options.now file c.args.resolved.now m c.in_ok-world.ensures.fits
    (ap (passes_mode mode) (sym many) ∙ ap (passes_mode mode) (sym c.len-questions.ensures) ∙ sym c.passes_mode.ensures ∙ c.if-passes_mode.false)
    c.in-Some.number c.in-Some.ensures.some.0
    (ap (is_no_question c.in-Some.number) (sym many) ∙ ap (is_no_question c.in-Some.number) (sym c.len-questions.ensures) ∙ c.in-Some.ensures.some.1)

pub returns-in-None-clause-world : goal.returns-in-None-clause-world
returns-in-None-clause-world c = λ file m.
    let mode = c.args.options.now.mode in
    let many = as-many c.args.resolved.now c.in_ok-world.world c.in_ok-world.ensures.world in
    examined c.args.options.now file c.args.resolved.now m c.in_ok-world.ensures.fits
    (ap (passes_mode mode) (sym many) ∙ ap (passes_mode mode) (sym c.len-questions.ensures) ∙ sym c.passes_mode.ensures ∙ c.if-passes_mode.false)
    c.in_ok-world.world c.requires.form c.requires.names
    (ap (lacks_question (number_asked mode)) (sym many) ∙ ap (lacks_question (number_asked mode)) (sym c.len-questions.ensures) ∙ c.in-None.ensures.none) c.in_ok-world.ensures.world
