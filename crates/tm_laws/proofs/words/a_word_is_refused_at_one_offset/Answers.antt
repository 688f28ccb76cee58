use Rattle.std.proofs.Common.{true}
use Rattle.tm_base.specs.Transmutes.{holds}
use Rattle.tm_laws.proofs.known.DecideLemmas.{Dec-is}
use Rattle.tm_laws.proofs.refusals.RefusedLemmas.{refused-once, refused-where_unfit}
use Rattle.tm_laws.proofs.words.a_word_is_refused_at_one_offset.Goals as goal

pub returns-clause-only : goal.returns-clause-only
returns-clause-only c = λ A keep t w o p first second. refused-once (holds A) keep t w o p first second

pub returns-clause-some : goal.returns-clause-some
returns-clause-some c = λ A keep t w sources closed has_word. refused-where_unfit (holds A) keep t (λ x u. Dec-is (A x u) true) sources w closed has_word
