use Rattle.std.proofs.Common.{◌∙◌, sym, refl}
use Rattle.tm_walk.proofs.GroupLemmas.{states_turn, states_end}
use Rattle.tm_walk.proofs.group.states_of.Goals as goal

pub loop-obligation-init : goal.loop-obligation-init
loop-obligation-init c = rw c.new-states.ensures refl

pub loop-obligation-preserved : goal.loop-obligation-preserved
loop-obligation-preserved c = rw (c.in_ok-insert.ensures.added, c.obligation-item.is)
    (states_turn c.args.obligations.now c.loop-obligation.obligation-index c.obligation-item.result c.loop-obligation.states c.loop-obligation-test.true ∙ c.loop-obligation.invariant)

pub returns : goal.returns
returns c = sym (states_end c.args.obligations.now c.loop-obligation.obligation-index c.loop-obligation.states c.loop-obligation-test.false) ∙ c.loop-obligation.invariant
