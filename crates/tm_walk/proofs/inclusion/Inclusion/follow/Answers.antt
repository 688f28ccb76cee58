use Rattle.std.proofs.Common.{sym, subst, Contains}
use Rattle.std.proofs.lemmas.List.Elements.{Contains-get_or}
use Rattle.tm_walk.specs.declared.obligation.Obligation.{Obligation}
use Rattle.tm_walk.specs.Obligations.{AreAdded, FollowsState}
use Rattle.tm_walk.proofs.AddedLemmas.{added_turn, added_end}
use Rattle.tm_walk.proofs.inclusion.Inclusion.follow.Goals as goal

pub follow_edges-requires : goal.follow_edges-requires
follow_edges-requires g c =
    let follows = λ (o : Obligation). FollowsState c.args.self.now.src.now c.args.symbol c.args.target.now o.state in
    let os = c.args.group.now in
    let o = c.obligation-item.result in
    let at = subst (λ (z : Obligation). Contains os z) (sym c.obligation-item.is) (Contains-get_or os c.loop-obligation.obligation-index o c.loop-obligation-test.true) in
    (c.requires.states o at).state

pub loop-obligation-preserved : goal.loop-obligation-preserved
loop-obligation-preserved g c =
    let follows = λ (o : Obligation). FollowsState c.args.self.now.src.now c.args.symbol c.args.target.now o.state in
    let os = c.args.group.now in
    let o = c.obligation-item.result in
    λ after h. c.loop-obligation.invariant after
    (added_turn follows os c.loop-obligation.obligation-index o c.loop-obligation-test.true c.loop-obligation.next c.follow_edges.new.next after
    (subst (λ (z : Obligation). AreAdded (follows z) c.loop-obligation.next c.follow_edges.new.next) c.obligation-item.is c.in_ok-follow_edges.ensures) h)

pub returns : goal.returns
returns g c =
    let follows = λ (o : Obligation). FollowsState c.args.self.now.src.now c.args.symbol c.args.target.now o.state in
    c.loop-obligation.invariant c.loop-obligation.next (added_end follows c.args.group.now c.loop-obligation.obligation-index c.loop-obligation-test.false c.loop-obligation.next)
