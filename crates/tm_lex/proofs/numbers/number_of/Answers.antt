-- The base is named behind a first `0`.
use Rattle.std.proofs.Common.{sym, ◌∙◌}
use Rattle.std.specs.Str.{chars}
use Rattle.tm_lex.proofs.NumberLemmas.{hexadecimal, octal, binary}
use Rattle.tm_lex.proofs.numbers.number_of.Goals as goal

pub returns-in-x : goal.returns-in-x
returns-in-x c =
    c.spelled_in-in-x.ensures
    ∙ sym (hexadecimal (chars c.args.text.now) (chars c.in-Some.rest.now) (chars c.in-Some-front.digits.now) c.in-Some.first c.in-Some-front.second
    c.in-Some.ensures c.in-Some-front.ensures c.if-first-ne48.false c.in-x.is)

pub returns-in-o : goal.returns-in-o
returns-in-o c =
    c.spelled_in-in-o.ensures
    ∙ sym (octal (chars c.args.text.now) (chars c.in-Some.rest.now) (chars c.in-Some-front.digits.now) c.in-Some.first c.in-Some-front.second
    c.in-Some.ensures c.in-Some-front.ensures c.if-first-ne48.false c.in-o.is)

pub returns-in-b : goal.returns-in-b
returns-in-b c =
    c.spelled_in-in-b.ensures
    ∙ sym (binary (chars c.args.text.now) (chars c.in-Some.rest.now) (chars c.in-Some-front.digits.now) c.in-Some.first c.in-Some-front.second
    c.in-Some.ensures c.in-Some-front.ensures c.if-first-ne48.false c.in-b.is)
