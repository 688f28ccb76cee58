use Rattle.std.proofs.Common.{◌≡◌, ℕ, ◌⊎◌, Some, sym, subst}
use Rattle.tm_base.specs.declared.limit.LimitKind.{LimitKind}
use Rattle.tm_parse.specs.Parsing.{HasCause, PassesLimitAt, SpellsFile, StopsAt}
use Rattle.tm_parse.specs.Spelling.{terminals_of}
use Rattle.tm_parse.specs.declared.parsed.Parsed.{Parsed}
use Rattle.tm_parse.specs.declared.parsing.ParseErr.{ParseErr}
use Rattle.tm_parse.specs.declared.parsing.ParseErr.TheVariants as parse_err
use Rattle.tm_report.specs.declared.fault.At.{At}
use Rattle.tm_report.specs.declared.fault.FileFault.{FileFault}
use Rattle.tm_report.specs.declared.fault.FileFault.TheVariants.{Passed}
use Rattle.tm_run.specs.Examined.{IsOnlyFault}
use Rattle.tm_run.proofs.files.TokenLemmas.{parser_fault, parser_limit}
use Rattle.tm_run.proofs.examining.parsed.Goals as goal

pub returns-in-Ok-clause-parsed : goal.returns-in-Ok-clause-parsed
returns-in-Ok-clause-parsed c = record {
  tokens_are = c.requires.tokens;
  spelled = c.in-Ok.ensures.file;
  only = λ other h. sym (c.in-Ok.ensures.files other h);
  goes_on = c.in-Ok.ensures.faults;
  within = c.in-Ok.ensures.limits;
}

pub returns-in-Err-At-clause-stop : goal.returns-in-Err-At-clause-stop
returns-in-Err-At-clause-stop c = λ options.
    let text = c.args.text.now in
    let terminals = terminals_of text c.args.tokens.now in
    let is = c.in-Err-At.field-0-is in
    let cause = subst (λ (err : ParseErr). HasCause terminals err) is c.in-Err-At.ensures.cause in
    let files = subst (λ (err : ParseErr). (v : Parsed) → SpellsFile terminals v → err ≡ parse_err.Memory) is c.in-Err-At.ensures.files in
    let faults = subst (λ (err : ParseErr). (p : ℕ) → StopsAt terminals p → (err ≡ parse_err.At p) ⊎ (err ≡ parse_err.Memory)) is c.in-Err-At.ensures.faults in
    let limits = subst (λ (err : ParseErr). (k : LimitKind) (p : ℕ) → PassesLimitAt terminals k p → (err ≡ parse_err.Limit k p) ⊎ (err ≡ parse_err.Memory)) is c.in-Err-At.ensures.limits in
    subst (λ (f : FileFault). IsOnlyFault options text f) (sym c.fault.ensures)
    (parser_fault options text c.args.tokens.now c.requires.tokens c.in-Err-At.place cause files faults limits)

pub returns-in-Err-Limit-clause-stop : goal.returns-in-Err-Limit-clause-stop
returns-in-Err-Limit-clause-stop c = λ options.
    let text = c.args.text.now in
    let tokens = c.args.tokens.now in
    let terminals = terminals_of text tokens in
    let kind = c.in-Err-Limit.kind in
    let place = c.in-Err-Limit.place in
    let is = c.in-Err-Limit.field-0-is in
    let cause = subst (λ (err : ParseErr). HasCause terminals err) is c.in-Err-Limit.ensures.cause in
    let files = subst (λ (err : ParseErr). (v : Parsed) → SpellsFile terminals v → err ≡ parse_err.Memory) is c.in-Err-Limit.ensures.files in
    let faults = subst (λ (err : ParseErr). (p : ℕ) → StopsAt terminals p → (err ≡ parse_err.At p) ⊎ (err ≡ parse_err.Memory)) is c.in-Err-Limit.ensures.faults in
    let limits = subst (λ (err : ParseErr). (k : LimitKind) (p : ℕ) → PassesLimitAt terminals k p → (err ≡ parse_err.Limit k p) ⊎ (err ≡ parse_err.Memory)) is c.in-Err-Limit.ensures.limits in
    subst (λ (at : At). IsOnlyFault options text (Passed kind (Some at))) (sym c.start.ensures)
    (parser_limit options text tokens c.requires.tokens kind place cause files faults limits)
