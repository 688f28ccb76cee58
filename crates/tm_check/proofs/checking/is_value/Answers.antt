use Rattle.std.proofs.Common.{◌==◌, ◌↔◌, IsTrue, subst, true}
use Rattle.tm_base.specs.Tables.{expanded_in}
use Rattle.tm_base.specs.Transmutes.{holds}
use Rattle.tm_base.specs.Valid.{Valid}
use Rattle.tm_base.specs.Worlds.{tables_of}
use Rattle.tm_check.proofs.ExactLemmas.{source-exact}
use Rattle.tm_check.proofs.checking.is_value.Goals as goal

pub returns : goal.returns
returns c =
    let t = expanded_in (tables_of c.args.world.now) c.args.g.now in
    let exact = subst (λ u. IsTrue c.takes.result ↔ Valid (holds (λ x r. x == r)) true t u) c.of.ensures c.takes.ensures in
    let same = source-exact t c.args.word.now in
    (λ h. same.0 (exact.0 h), λ v. exact.1 (same.1 v))
