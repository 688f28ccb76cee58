use Rattle.std.proofs.Common.{ℕ, List, get_or, subst, ap, ◌∙◌, Contains}
use Rattle.std.proofs.lemmas.List.Elements.{Contains-get_or}
use Rattle.tm_auto.specs.Classes.{labels_from}
use Rattle.tm_auto.proofs.ClassLemmas.{labels_turn, labels_done}
use Rattle.tm_auto.proofs.class.labels_of.Goals as goal

pub edges-requires : goal.edges-requires
edges-requires c =
    let items = c.as_slice-state-items.result.now in
    let at = c.loop-state.state-index in
    c.requires (get_or items at 0) (subst (λ (states : List ℕ). Contains states (get_or items at 0)) c.as_slice-state-items.ensures.states (Contains-get_or items at 0 c.loop-state-test.true))

pub loop-state-preserved : goal.loop-state-preserved
loop-state-preserved c = rw (c.in_ok-add_labels.ensures, c.edges.ensures) (labels_turn c.loop-state.labels.items c.args.auto.now.edges c.as_slice-state-items.result.now c.loop-state.state-index c.loop-state-test.true ∙ c.loop-state.invariant)

pub returns : goal.returns
returns c =
    labels_done c.loop-state.labels.items _ c.args.auto.now.edges c.as_slice-state-items.result.now c.loop-state.state-index c.loop-state-test.false c.loop-state.invariant ∙ ap (labels_from c.args.auto.now.edges) c.as_slice-state-items.ensures.states
