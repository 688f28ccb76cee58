use Rattle.tm_base.specs.Tables.{expanded_in}
use Rattle.tm_base.specs.Worlds.{tables_of}
use Rattle.tm_check.proofs.ExactLemmas.{source-exact}
use Rattle.tm_refute.proofs.verifying.verifier.Verifier.is_value.Goals as goal

pub returns : goal.returns
returns c =
    let exact = c.valid.ensures.exact in
    let same = source-exact (expanded_in (tables_of c.args.self.now.world.now) c.args.s.now) c.args.word.now in
    (λ h. same.0 (exact.0 h), λ v. exact.1 (same.1 v))
