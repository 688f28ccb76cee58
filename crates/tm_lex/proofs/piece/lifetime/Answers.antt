-- A `'` begins a lifetime exactly where a word begins behind it.
use Rattle.std.proofs.Common.{sym, ◌∙◌}
use Rattle.std.specs.Str.{chars}
use Rattle.tm_lex.proofs.PieceLemmas.{lifetime_token}
use Rattle.tm_lex.proofs.NothingLemmas.{quote_at_end, quote_before}
use Rattle.tm_lex.proofs.piece.lifetime.Goals as goal

pub returns-in_default : goal.returns-in_default
returns-in_default c = quote_at_end (chars c.args.rest.now) c.in_default.ensures

pub returns-then-begins_word : goal.returns-then-begins_word
returns-then-begins_word c =
    lifetime_token (chars c.args.rest.now) (chars c.in-Some.after.now) (chars c.word_end.result.now) c.in-Some.c
    c.in-Some.ensures (sym c.if-begins_word.ensures) c.word_end.ensures

pub returns-else-begins_word : goal.returns-else-begins_word
returns-else-begins_word c =
    quote_before (chars c.args.rest.now) (chars c.in-Some.after.now) c.in-Some.c c.in-Some.ensures (sym c.begins_word.ensures ∙ c.if-begins_word.false)
