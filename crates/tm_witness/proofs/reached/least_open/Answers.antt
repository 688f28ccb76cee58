use Rattle.std.proofs.Common.{sym, ap, ◌∙◌, subst, None, get_or, ℕ, List, Contains}
use Rattle.std.proofs.lemmas.List.Elements.{Contains-get_or}
use Rattle.tm_witness.specs.Search.{least_from}
use Rattle.tm_witness.proofs.SearchLemmas.{least-found, least-end}
use Rattle.tm_witness.proofs.reached.least_open.Goals as goal

pub edges-requires : goal.edges-requires
edges-requires c =
    let items = c.as_slice-state-items.result.now in
    let at = c.loop-state.state-index in
    c.requires (get_or items at 0) (subst (λ (states : List ℕ). Contains states (get_or items at 0)) c.as_slice-state-items.ensures.states (Contains-get_or items at 0 c.loop-state-test.true))

pub returns : goal.returns
returns c =
    let items = c.as_slice-state-items.result.now in
    let es = c.args.auto.now.edges in
    least-found c.args.auto.now c.args.states.now c.loop-state.least
    (sym (least-end es c.loop-state.least items c.loop-state.state-index c.loop-state-test.false) ∙ c.loop-state.invariant
    ∙ ap (least_from es None) c.as_slice-state-items.ensures.states)
