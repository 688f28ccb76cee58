-- What isn't a digit, and what takes the value past 2 ^ 128, spells nothing.
use Rattle.std.proofs.Common.{sym, ◌∙◌}
use Rattle.std.specs.Str.{chars}
use Rattle.tm_lex.proofs.NumberLemmas.{at_no_digit}
use Rattle.tm_lex.proofs.numbers.spelled_in.Goals as goal

pub returns-in_default-with_digit : goal.returns-in_default-with_digit
returns-in_default-with_digit c =
    sym (sym c.digits.invariant.1
    ∙ at_no_digit c.args.base c.digits.value c.digits.some (chars c.digits.rest.now) (chars c.in-Some.after.now) c.in-Some.c c.requires.least
    c.in-Some.ensures (sym c.is_xid_continue.ensures.value ∙ c.if-not-is_xid_continue.false) c.if-c-eq95.false c.in_default-with_digit.ensures)
