use Rattle.std.proofs.Common.{◌∙◌, ap, List, ℕ}
use Rattle.tm_auto.proofs.SetLemmas.{increasing_rises}
use Rattle.tm_walk.specs.Obligations.{is_within}
use Rattle.tm_walk.proofs.WithinLemmas.{runs_end, runs_within}
use Rattle.tm_walk.proofs.obligation.is_within.Goals as goal

pub returns : goal.returns
returns c =
    let part = c.as_slice-part.result.now in
    let whole = c.as_slice-state-items.result.now in
    runs_end part whole c.loop-state.found c.loop-state.state-index c.loop-state-test.false c.loop-state.invariant.most
    ∙ c.loop-state.invariant.same
    ∙ runs_within part whole (increasing_rises part c.as_slice-part.ensures.rising) (increasing_rises whole c.as_slice-state-items.ensures.rising)
    ∙ ap (λ (z : List ℕ). is_within z whole) c.as_slice-part.ensures.states
    ∙ ap (is_within c.args.part.now) c.as_slice-state-items.ensures.states
