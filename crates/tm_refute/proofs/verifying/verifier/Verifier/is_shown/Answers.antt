use Rattle.std.proofs.lemmas.Result.{IfOk-weaker}
use Rattle.tm_base.specs.Worlds.{tables_of}
use Rattle.tm_refs.proofs.PointeeLemmas.{pointee-laid_out}
use Rattle.tm_refute.proofs.checking.ShownLemmas.{forward-shown, reverse-shown}
use Rattle.tm_refute.proofs.verifying.verifier.Verifier.is_shown.Goals as goal

pub breaks-requires-clause-source : goal.breaks-requires-clause-source
breaks-requires-clause-source c =
    pointee-laid_out c.args.self.now.world.now c.args.entry.now.source c.args.source.now c.requires.source c.requires.source_judged

pub breaks-requires-clause-target : goal.breaks-requires-clause-target
breaks-requires-clause-target c =
    pointee-laid_out c.args.self.now.world.now c.args.entry.now.target c.args.target.now c.requires.target c.requires.target_judged

pub breaks-requires-in-Reverse-clause-source : goal.breaks-requires-in-Reverse-clause-source
breaks-requires-in-Reverse-clause-source c =
    pointee-laid_out c.args.self.now.world.now c.args.entry.now.target c.args.target.now c.requires.target c.requires.target_judged

pub breaks-requires-in-Reverse-clause-target : goal.breaks-requires-in-Reverse-clause-target
breaks-requires-in-Reverse-clause-target c =
    pointee-laid_out c.args.self.now.world.now c.args.entry.now.source c.args.source.now c.requires.source c.requires.source_judged

pub returns-else-entry-eq0-2 : goal.returns-else-entry-eq0-2
returns-else-entry-eq0-2 c =
    let self = c.args.self.now in
    let entry = c.args.entry.now in
    IfOk-weaker c.breaks.result _ _
    (λ b. forward-shown (tables_of self.world.now) self.assume self.entries.now entry.depth c.if-entry-eq0-2.false c.args.source.now c.args.target.now entry.proof c.in-Forward.piece b c.in-Forward.is)
    c.breaks.ensures

pub returns-else-not-writable : goal.returns-else-not-writable
returns-else-not-writable c =
    let self = c.args.self.now in
    let entry = c.args.entry.now in
    IfOk-weaker c.breaks-in-Reverse.result _ _
    (λ b. reverse-shown (tables_of self.world.now) self.assume self.entries.now entry.depth c.if-entry-eq0-3.false c.args.source.now c.args.target.now entry.proof c.in-Reverse.piece b c.in-Reverse.is c.if-not-writable.false)
    c.breaks-in-Reverse.ensures
