use Rattle.std.proofs.Common.{ℕ}
use Rattle.tm_refute.proofs.text.header.question.Goals as goal

pub returns-then-not-accept : goal.returns-then-not-accept
returns-then-not-accept c = λ (n : ℕ) is. c.if-not-accept.ensures.1 _ is.1
