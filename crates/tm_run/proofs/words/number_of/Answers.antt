use Rattle.std.proofs.Common.{◌∙◌, sym, arith}
use Rattle.tm_run.proofs.options.WordLemmas.{number-read}
use Rattle.tm_run.proofs.words.number_of.Goals as goal

pub returns-then-is_decimal : goal.returns-then-is_decimal
returns-then-is_decimal c =
    let few = c.if-text-le20.true in
    let decimal = sym c.is_decimal.ensures ∙ c.if-is_decimal.true in
    number-read 20 64 c.args.text.now c.parse.result c.parse.ensures.value.0 (omega (arith, few)) decimal c.ok.result c.ok.ensures.value
