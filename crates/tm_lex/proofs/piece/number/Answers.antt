-- A run at a digit is a number exactly where it spells one.
use Rattle.std.proofs.Common.{sym}
use Rattle.std.specs.Str.{chars}
use Rattle.tm_lex.proofs.PieceLemmas.{number_token}
use Rattle.tm_lex.proofs.NothingLemmas.{bad_number}
use Rattle.tm_lex.proofs.piece.number.Goals as goal

pub returns-in-Some : goal.returns-in-Some
returns-in-Some c =
    number_token (chars c.args.text.now) (chars c.word_end.result.now) c.in-Some.value c.requires (sym c.in-Some.ensures) c.word_end.ensures

pub returns-in-None : goal.returns-in-None
returns-in-None c = bad_number (chars c.args.text.now) c.requires (sym c.in-None.ensures)
