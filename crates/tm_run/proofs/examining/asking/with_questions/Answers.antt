use Rattle.std.proofs.Common.{◌∙◌, List, ap, subst, sym}
use Rattle.tm_names.specs.InForm.{IsInForm}
use Rattle.tm_names.specs.declared.resolved.OpenAsk.{OpenAsk}
use Rattle.tm_run.specs.Asking.{own_questions}
use Rattle.tm_run.proofs.files.AskingLemmas.{own-questions-in-form}
use Rattle.tm_run.proofs.examining.asking.with_questions.Goals as goal

pub returns-in_ok-own_questions-in-Some-Matrix-clause-form : goal.returns-in_ok-own_questions-in-Some-Matrix-clause-form
returns-in_ok-own_questions-in-Some-Matrix-clause-form c =
    let resolved = c.args.resolved in
    let is = c.in_ok-own_questions-in-Some-Matrix.ensures ∙ ap (own_questions 0) c.as_slice.ensures in
    subst (λ (asks : List OpenAsk). IsInForm (record { profile = resolved.profile; defs = resolved.defs; types = resolved.types; regions = resolved.regions; bounds = resolved.bounds; asks = asks }))
    (sym is) (own-questions-in-form resolved c.args.parsed.now.decls c.requires.form c.requires.decls)
