use Rattle.std.proofs.Common.{◌≡◌}
use Rattle.tm_walk.specs.declared.obligation.Obligation.{Obligation}
use Rattle.tm_walk.proofs.AddedLemmas.{added_end}
use Rattle.tm_walk.proofs.FollowLemmas.{stay_turn}
use Rattle.tm_walk.proofs.inclusion.Inclusion.stay.Goals as goal

pub loop-obligation-preserved : goal.loop-obligation-preserved
loop-obligation-preserved g c = λ after h. c.loop-obligation.invariant after
    (stay_turn c.args.target.now c.args.group.now c.loop-obligation.obligation-index c.obligation-item.result c.loop-obligation-test.true c.obligation-item.is c.loop-obligation.next c.add.new.self after _ c.in_ok-copy.ensures c.in_ok-add.ensures h)

pub returns : goal.returns
returns g c = c.loop-obligation.invariant c.loop-obligation.next
    (added_end (λ (o : Obligation) (p : Obligation). p ≡ record { state = o.state; target = c.args.target.now }) c.args.group.now c.loop-obligation.obligation-index c.loop-obligation-test.false c.loop-obligation.next)
