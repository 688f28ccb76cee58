use Rattle.std.proofs.Common.{sym}
use Rattle.std.proofs.lemmas.Result.{IfOk-weaker}
use Rattle.tm_base.specs.Worlds.{tables_of}
use Rattle.tm_refute.proofs.checking.ShownLemmas.{holds-from}
use Rattle.tm_refute.proofs.verifying.verifier.Verifier.holds.Goals as goal

pub returns : goal.returns
returns c =
    let self = c.args.self.now in
    let entry = c.args.entry.now in
    let r = c.in-Some.source.now in
    let t = c.in-Some-get.target.now in
    let at_r = sym c.in-Some.ensures.item in
    let at_t = sym c.in-Some-get.ensures.item in
    let judged_r = (c.requires.judged.each entry.source.0 r at_r).0 (sym c.if-not-has.ensures) in
    let judged_t = (c.requires.judged.each entry.target.0 t at_t).0 (sym c.if-not-has-2.ensures) in
    IfOk-weaker c.is_shown.result _ _ (λ b. holds-from (tables_of self.world.now) self.assume self.entries.now entry r t at_r at_t judged_r judged_t b) c.is_shown.ensures
