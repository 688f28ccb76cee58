use Rattle.std.proofs.Common.{◌≡◌, ◌∙◌, sym, true≢false, string_bytes}
use Rattle.std.proofs.lemmas.Result.{IfOk-weaker}
use Rattle.clap.proofs.WalkLemmas.{list_any-map}
use Rattle.clap.specs.declared.error.kind.ErrorKind.TheVariants.{OutOfMemory}
use Rattle.tm_run.specs.Commands.{is_stray}
use Rattle.tm_run.proofs.options.ClapReads.{asked-found, nothing-asked, stray-asked}
use Rattle.tm_run.proofs.words.chosen.Goals as goal

pub returns-then-has_stray : goal.returns-then-has_stray
returns-then-has_stray c = sym (stray-asked _ (sym (list_any-map is_stray string_bytes c.args.words.now) ∙ sym c.has_stray.ensures ∙ c.if-has_stray.true))

pub returns-in-Ok : goal.returns-in-Ok
returns-in-Ok c =
    let fine = sym (list_any-map is_stray string_bytes c.args.words.now) ∙ sym c.has_stray.ensures ∙ c.if-has_stray.false in
    IfOk-weaker c.options_given.result _ _ (λ options is. is ∙ asked-found _ _ _ c.in_ok-command.ensures fine c.in-Ok.ensures.kinds c.in-Ok.ensures.matches) c.options_given.ensures

pub returns-in-Err-2 : goal.returns-in-Err-2
returns-in-Err-2 c =
    let fine = sym (list_any-map is_stray string_bytes c.args.words.now) ∙ sym c.has_stray.ensures ∙ c.if-has_stray.false in
    sym (nothing-asked _ _ c.in-Err.error c.in_ok-command.ensures fine c.in-Err.ensures.kinds (λ out.
    let same : c.kind.result ≡ OutOfMemory = c.kind.ensures ∙ out in
    true≢false (sym (sym c.if-eq.false ∙ (rw same at c.eq.ensures)))))
