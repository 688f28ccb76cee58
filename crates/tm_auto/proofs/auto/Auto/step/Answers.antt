use Rattle.std.proofs.Common.{refl, ◌∙◌}
use Rattle.tm_auto.proofs.NextLemmas.{step_turn, step_done, next_step, next_states, next_layer}
use Rattle.tm_auto.proofs.auto.Auto.step.Goals as goal

pub loop-state-init : goal.loop-state-init
loop-state-init g c = rw c.new-reached.ensures refl

pub loop-state-preserved : goal.loop-state-preserved
loop-state-preserved g c = rw (c.in_ok-follow.ensures, c.leaving.ensures, ← c.self.view_is) (step_turn (g.M.RefTest.test c.args.refs.now) c.args.symbol _ _ _ _ c.loop-state-test.true ∙ rw (← c.self.view_is) at c.loop-state.invariant)

pub returns-clause-step : goal.returns-clause-step
returns-clause-step g c =
    let same = step_done (g.M.RefTest.test c.args.refs.now) c.args.symbol _ _ _ _ _ c.loop-state-test.false c.loop-state.invariant c.as_slice-state-items.ensures.states in
    rw (same, ← c.self.view_is) (next_step (g.M.RefTest.test c.args.refs.now) c.args.symbol _ c.args.from.now)

pub returns-clause-states : goal.returns-clause-states
returns-clause-states g c =
    let same = step_done (g.M.RefTest.test c.args.refs.now) c.args.symbol _ _ _ _ _ c.loop-state-test.false c.loop-state.invariant c.as_slice-state-items.ensures.states in
    rw (same, ← c.self.view_is) (next_states (g.M.RefTest.test c.args.refs.now) c.args.symbol _ c.self.invariant c.args.from.now)

pub returns-clause-layer : goal.returns-clause-layer
returns-clause-layer g c =
    let same = step_done (g.M.RefTest.test c.args.refs.now) c.args.symbol _ _ _ _ _ c.loop-state-test.false c.loop-state.invariant c.as_slice-state-items.ensures.states in
    rw (same, ← c.self.view_is) (λ k h. next_layer (g.M.RefTest.test c.args.refs.now) c.args.symbol _ c.args.from.now k h)
