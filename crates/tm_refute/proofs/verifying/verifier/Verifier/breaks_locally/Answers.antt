use Rattle.std.proofs.Common.{slice_get}
use Rattle.tm_base.specs.Worlds.{tables_of}
use Rattle.tm_base.proofs.CompatibleLemmas.{OnRows-grows}
use Rattle.tm_refute.proofs.checking.VerifyLemmas.{broken, kept}
use Rattle.tm_refute.proofs.verifying.verifier.Verifier.breaks_locally.Goals as goal

pub returns-in-Ok : goal.returns-in-Ok
returns-in-Ok c =
    let refs = c.args.self.now.world.now.refs in
    OnRows-grows (slice_get refs c.args.entry.now.source.0) (slice_get refs c.args.entry.now.target.0) _ _
    (kept (tables_of c.args.self.now.world.now) c.args.self.now.assume c.args.rule) c.in-Ok.ensures.answer

pub returns-in-Err : goal.returns-in-Err
returns-in-Err c =
    let refs = c.args.self.now.world.now.refs in
    OnRows-grows (slice_get refs c.args.entry.now.source.0) (slice_get refs c.args.entry.now.target.0) _ _
    (broken (tables_of c.args.self.now.world.now) c.args.self.now.assume c.args.rule c.in-Err.first c.eq.result c.eq.ensures) c.in-Err.ensures.answer
