-- What the rest goes on with stands behind the tokens so far.
use denote.Shadow.{shadow}
use denote.Text.{Utf8}
use Rattle.std.proofs.Common.{length}
use Rattle.std.specs.Str.{chars}
use Rattle.tm_lex.proofs.LexLemmas.{ReadsTo}
use Rattle.tm_lex.proofs.lexing.read.Given as goal

abbrev pub invariant-pieces : goal.invariant-pieces
invariant-pieces l = shadow (Utf8 l.rest) × ReadsTo l.fn.text l.tokens.items (chars l.rest)

abbrev pub decreases-pieces : goal.decreases-pieces
decreases-pieces l = length (chars l.rest)
