-- A `/*` begins a comment exactly where its `*/` is found.
use Rattle.std.proofs.Common.{sym}
use Rattle.std.specs.Str.{chars}
use Rattle.tm_lex.proofs.PieceLemmas.{block_gap}
use Rattle.tm_lex.proofs.NothingLemmas.{open_comment}
use Rattle.tm_lex.proofs.piece.block_comment.Goals as goal

pub returns-in-Some : goal.returns-in-Some
returns-in-Some c = block_gap (chars c.args.rest.now) (chars c.in-Some.after.now) (sym c.in-Some.ensures)

pub returns-in-None : goal.returns-in-None
returns-in-None c = open_comment (chars c.args.rest.now) (sym c.in-None.ensures)
