-- What begins as a gap or a token is one, and else nothing begins.
use Rattle.std.specs.Str.{chars}
use Rattle.tm_lex.proofs.PieceLemmas.{space_gap, line_gap, word_token}
use Rattle.tm_lex.proofs.NothingLemmas.{nothing_here}
use Rattle.tm_lex.proofs.piece.next_piece.Goals as goal

pub returns-in-Space : goal.returns-in-Space
returns-in-Space c =
    space_gap (chars c.args.text.now) (chars c.in-Space.rest.now) c.in-Space.ensures.0 c.in-Space.ensures.1 c.in-Space.ensures.2

pub returns-in-Line : goal.returns-in-Line
returns-in-Line c =
    line_gap (chars c.args.text.now) (chars c.in-Line.rest.now) (chars c.line_end.result.now) c.in-Line.ensures c.line_end.ensures

pub returns-in-Word : goal.returns-in-Word
returns-in-Word c =
    word_token (chars c.args.text.now) (chars c.in-Word.rest.now) (chars c.word_end.result.now) c.in-Word.ensures.0 c.in-Word.ensures.1
    c.in-Word.ensures.2 c.word_end.ensures

pub returns-in-Nothing : goal.returns-in-Nothing
returns-in-Nothing c =
    nothing_here (chars c.args.text.now) c.in-Nothing.ensures.0 c.in-Nothing.ensures.1 c.in-Nothing.ensures.2 c.in-Nothing.ensures.3
