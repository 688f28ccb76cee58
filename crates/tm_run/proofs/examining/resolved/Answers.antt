use Rattle.std.proofs.Common.{◌≡◌, ℕ, ◌⊎◌, slice_get, sym, subst}
use Rattle.tm_base.specs.declared.limit.NameWhy.{NameWhy}
use Rattle.tm_base.specs.declared.profile.Profile.{Profile}
use Rattle.tm_names.specs.Checking.{HasCause}
use Rattle.tm_names.specs.Faults.{IsFirstFault}
use Rattle.tm_names.specs.Written.{name_at}
use Rattle.tm_names.specs.declared.fault.NameErr.{NameErr}
use Rattle.tm_names.specs.declared.fault.NameErr.TheVariants.{Fault, Memory}
use Rattle.tm_report.specs.declared.fault.At.{At}
use Rattle.tm_report.specs.declared.fault.FileFault.TheVariants.{Names}
use Rattle.tm_run.specs.Words.{profile_for}
use Rattle.tm_run.specs.Examined.{IsOnlyFault}
use Rattle.tm_run.specs.Faults.{start_of}
use Rattle.tm_run.specs.Places.{at_byte}
use Rattle.tm_run.proofs.files.TokenLemmas.{name_fault}
use Rattle.tm_run.proofs.examining.resolved.Goals as goal

pub returns-in-Err-Fault-clause-stop : goal.returns-in-Err-Fault-clause-stop
returns-in-Err-Fault-clause-stop c =
    let text = c.args.text.now in
    let tokens = c.args.tokens.now in
    let parsed = c.args.parsed.now in
    let name = name_at text tokens in
    let why = c.in-Err-Fault.why in
    let is = c.in-Err-Fault.field-0-is in
    let first = subst (λ (err : NameErr). HasCause (profile_for c.args.options.now) name parsed err) is
    (subst (λ (p : Profile). HasCause p name parsed c.in-Err-Fault.field-0) c.target.ensures c.in-Err-Fault.ensures.fault) in
    let faults = subst (λ (err : NameErr). (w : NameWhy) (p : ℕ) → IsFirstFault (profile_for c.args.options.now) name parsed w p → (err ≡ Fault w p) ⊎ (err ≡ Memory)) is
    (subst (λ (p : Profile). (w : NameWhy) (q : ℕ) → IsFirstFault p name parsed w q → (c.in-Err-Fault.field-0 ≡ Fault w q) ⊎ (c.in-Err-Fault.field-0 ≡ Memory)) c.target.ensures c.in-Err-Fault.ensures.faults) in
    let here : c.start.result ≡ at_byte text (start_of text (slice_get tokens c.in-Err-Fault.place)) = rw is at c.start.ensures in
    rw is (subst (λ (at : At). IsOnlyFault c.args.options.now text (Names why at)) (sym here)
    (name_fault c.args.options.now text tokens c.requires.parsed.tokens_are parsed c.requires.parsed why c.in-Err-Fault.place first faults))
