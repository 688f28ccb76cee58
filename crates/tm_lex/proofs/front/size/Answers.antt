-- A text has the bytes that spell its characters.
use Rattle.std.proofs.Common.{ap, sym, length}
use Rattle.std.proofs.lemmas.Str.{encodes-chars}
use Rattle.tm_lex.proofs.front.size.Goals as goal

pub returns : goal.returns
returns c = sym (ap length (encodes-chars c.args.text.now c.utf8.text))
