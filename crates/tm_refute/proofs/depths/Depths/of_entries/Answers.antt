use Rattle.std.proofs.Common.{ap, subst, sym, ◌∙◌, take, ◌∷◌, [], ◌++◌}
use Rattle.std.proofs.lemmas.List.{take_all, take_more}
use Rattle.tm_refute.specs.Depths.{AreDepthsOf}
use Rattle.tm_refute.proofs.making.DepthLemmas.{depths-more, depths-none}
use Rattle.tm_refute.proofs.depths.Depths.of_entries.Goals as goal

pub loop-entry-init : goal.loop-entry-init
loop-entry-init c = depths-none _ c.new.ensures.empty

pub loop-entry-preserved : goal.loop-entry-preserved
loop-entry-preserved c =
    let entries = c.args.entries.now in
    let e = c.entry-item.result in
    let i = c.loop-entry.entry-index in
    subst (λ es. AreDepthsOf es c.add.new.self) (sym (take_more entries i e c.loop-entry-test.true ∙ ap (λ x. take i entries ++ x ∷ []) (sym c.entry-item.is)))
    (depths-more (take i entries) e c.loop-entry.depths c.add.new.self c.loop-entry.invariant c.in_ok-add.ensures)

pub returns : goal.returns
returns c =
    subst (λ es. AreDepthsOf es c.loop-entry.depths) (take_all c.loop-entry.entry-index c.args.entries.now c.loop-entry-test.false) c.loop-entry.invariant
