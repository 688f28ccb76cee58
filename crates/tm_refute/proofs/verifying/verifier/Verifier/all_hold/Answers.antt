use Rattle.std.proofs.Common.{List, refl, subst}
use Rattle.std.specs.List.{All}
use Rattle.std.proofs.lemmas.List.{take_all}
use Rattle.std.proofs.lemmas.List.Elements.{All-more}
use Rattle.tm_base.specs.Worlds.{tables_of}
use Rattle.tm_refute.specs.declared.refutation.Entry.{Entry}
use Rattle.tm_refute.specs.Refutes.{Holds}
use Rattle.tm_refute.proofs.verifying.verifier.Verifier.all_hold.Goals as goal

pub loop-entry-preserved : goal.loop-entry-preserved
loop-entry-preserved c =
    let self = c.args.self.now in
    let P : Entry → Type 0 = Holds (tables_of self.world.now) self.assume self.entries.now in
    All-more P self.entries.now c.loop-entry.entry-index c.entry-item.result c.loop-entry-test.true c.loop-entry.invariant
    (subst P c.entry-item.is (c.in_ok-holds.ensures.0 c.if-not-branch.false))

pub returns : goal.returns
returns c =
    let self = c.args.self.now in
    let P : Entry → Type 0 = Holds (tables_of self.world.now) self.assume self.entries.now in
    (λ h. subst (λ (es : List Entry). All P es) (take_all c.loop-entry.entry-index self.entries.now c.loop-entry-test.false) c.loop-entry.invariant, λ h. refl)
