use Rattle.std.proofs.Common.{◌≡◌, ℕ, ◌⊎◌, List, sym, subst}
use Rattle.tm_lex.specs.Lexes.{HasCause, IsFault, Tokenizes}
use Rattle.tm_lex.specs.declared.fault.LexErr.{LexErr}
use Rattle.tm_lex.specs.declared.fault.LexErr.TheVariants.{At, Memory}
use Rattle.tm_lex.specs.declared.fault.LexWhy.{LexWhy}
use Rattle.tm_lex.specs.declared.token.Token.{Token}
use Rattle.tm_report.specs.declared.fault.FileFault.{FileFault}
use Rattle.tm_run.specs.Examined.{IsOnlyFault, no_token_at}
use Rattle.tm_run.specs.Places.{at_byte}
use Rattle.tm_run.proofs.files.TokenLemmas.{lexer_fault}
use Rattle.tm_run.proofs.examining.tokens.Goals as goal

pub returns-in-Ok-clause-tokens : goal.returns-in-Ok-clause-tokens
returns-in-Ok-clause-tokens c = record {
  lexed = record { short = c.requires; utf8 = c.utf8.text; tokenizes = c.in-Ok.ensures.tokens };
  only = λ others h. sym (c.in-Ok.ensures.tokenizes others h);
  faultless = c.in-Ok.ensures.faults;
  pieces = c.in-Ok.ensures.pieces;
}

pub returns-in-Err-At-clause-stop : goal.returns-in-Err-At-clause-stop
returns-in-Err-At-clause-stop c = λ options.
    let text = c.args.text.now in
    let is = c.in-Err-At.field-0-is in
    let fault = subst (λ (err : LexErr). HasCause text err) is c.in-Err-At.ensures.fault in
    let tokens = subst (λ (err : LexErr). (ts : List Token) → Tokenizes text ts → err ≡ Memory) is c.in-Err-At.ensures.tokenizes in
    let faults = subst (λ (err : LexErr). (byte : ℕ) (why : LexWhy) → IsFault text byte why → (err ≡ At byte why) ⊎ (err ≡ Memory)) is c.in-Err-At.ensures.faults in
    let one = lexer_fault options text c.in-Err-At.byte c.in-Err-At.why (record { short = c.requires; utf8 = c.utf8.text; fault = fault }) tokens faults in
    let bytes = c.as_bytes.ensures.value in
    let place = c.at-place.ensures in
    let e : c.no_token.result ≡ no_token_at (at_byte text c.in-Err-At.byte) c.in-Err-At.why = cc c.no_token.ensures in
    subst (λ (f : FileFault). IsOnlyFault options text f) (sym e) one
