use Rattle.std.proofs.Common.{ℕ, ◌↔◌, Bool, IsTrue, subst, ◌∙◌}
use Rattle.tm_base.specs.Tables.{expanded_in}
use Rattle.tm_base.specs.Transmutes.{holds}
use Rattle.tm_base.specs.Viable.{Viable}
use Rattle.tm_base.specs.Worlds.{tables_of}
use Rattle.tm_refute.specs.Chosen.{shown}
use Rattle.tm_refute.specs.Depths.{depth_in, stands}
use Rattle.tm_refute.specs.Refutes.{Stands}
use Rattle.tm_refute.proofs.making.DepthLemmas.{stands-exact}
use Rattle.tm_refute.proofs.checking.VerifyLemmas.{viable-same}
use Rattle.tm_refute.proofs.verifying.verifier.Verifier.goes_along.Goals as goal

pub returns : goal.returns
returns c =
    let self = c.args.self.now in
    let t = expanded_in (tables_of self.world.now) c.args.t.now in
    let test : ℕ → ℕ → Bool = λ x y. stands c.args.limit (depth_in self.depths x y) in
    let exact = subst (λ w. IsTrue c.viable.result ↔ Viable (holds test) self.assume.safety t w) (c.as_slice.ensures.value ∙ c.in_ok-shown.ensures) c.viable.ensures.exact in
    let same = viable-same (holds test) (Stands self.entries.now c.args.limit) self.assume.safety t (shown t c.args.piece.now)
    (stands-exact self.entries.now self.depths c.requires.ready.depths c.args.limit) in
    (λ h. same.0 (exact.0 h), λ v. exact.1 (same.1 v))
