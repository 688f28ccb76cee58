use Rattle.std.proofs.Common.{◌∙◌, List, Result, Ok, Err, IfOk, sym, subst}
use Rattle.tm_lex.specs.declared.token.Token.{Token}
use Rattle.tm_names.specs.declared.resolved.Resolved.{Resolved}
use Rattle.tm_parse.specs.declared.parsed.Parsed.{Parsed}
use Rattle.tm_run.specs.Examined.{IsMeaningOf, IsParsedOf, IsResolvedOf, IsStop}
use Rattle.tm_run.specs.declared.words.options.Options.{Options}
use Rattle.tm_run.specs.declared.stop.Stop.{Stop}
use Rattle.tm_run.proofs.files.FaultLemmas.{passed_on}
use Rattle.tm_run.proofs.files.TokenLemmas.{meaning}
use Rattle.tm_run.proofs.examining.meaning.Goals as goal

if_meaning : (options : Options) (file : _) (tokens : List Token) (parsed : Parsed) (result : Result Resolved Stop) → IsParsedOf file tokens parsed → IfOk result (IsResolvedOf options file tokens parsed) → IfOk result (IsMeaningOf options file)
if_meaning options file tokens parsed (Ok resolved) is h = meaning options file tokens is.tokens_are parsed is resolved h
if_meaning options file tokens parsed (Err stop) is h = tt

pub returns-clause-meaning : goal.returns-clause-meaning
returns-clause-meaning c =
    let text = c.args.text.now in
    let parsed = c.in_ok-parsed.parsed in
    let tokens = c.deref.result.now in
    let names = subst (λ (ts : List Token). IfOk c.resolved.result (IsResolvedOf c.args.options.now text ts parsed)) (c.deref-2.ensures.value ∙ sym c.deref.ensures.value) c.resolved.ensures.resolved in
    if_meaning c.args.options.now text tokens parsed c.resolved.result c.in_ok-parsed.ensures.parsed names

pub returns-in_err-tokens-clause-stop : goal.returns-in_err-tokens-clause-stop
returns-in_err-tokens-clause-stop c =
    passed_on (IsStop c.args.options.now c.args.text.now) c.from_residual.result c.in_err-tokens.field-0.0 c.from_residual.ensures.1 (c.in_err-tokens.ensures.stop c.args.options.now)

pub returns-in_err-parsed-clause-stop : goal.returns-in_err-parsed-clause-stop
returns-in_err-parsed-clause-stop c =
    passed_on (IsStop c.args.options.now c.args.text.now) c.from_residual-in_err-parsed.result c.in_err-parsed.field-0.0 c.from_residual-in_err-parsed.ensures.1
    (c.in_err-parsed.ensures.stop c.args.options.now)
