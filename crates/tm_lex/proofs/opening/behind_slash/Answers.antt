-- A `/` alone begins nothing.
use Rattle.std.specs.Str.{chars}
use Rattle.tm_lex.proofs.NothingLemmas.{slash_at_end, slash_before}
use Rattle.tm_lex.proofs.opening.behind_slash.Goals as goal

pub returns-in_default : goal.returns-in_default
returns-in_default c = slash_at_end (chars c.args.rest.now) c.in_default.ensures

pub returns : goal.returns
returns c = slash_before (chars c.args.rest.now) (chars c.in-Some.after.now) c.in-Some.second c.in-Some.ensures c.if-second-eq47.false c.if-second-eq42.false
