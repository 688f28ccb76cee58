use Rattle.std.proofs.Common.{ℕ, ◌∙◌, List, [], subst}
use Rattle.tm_walk.specs.Obligations.{AreAdded}
use Rattle.tm_walk.proofs.AddedLemmas.{OfSome, added_end}
use Rattle.tm_walk.proofs.FollowLemmas.{IsFirstOf, first_turn, firsts_are}
use Rattle.tm_walk.proofs.inclusion.Inclusion.start.Goals as goal

pub loop-state-preserved : goal.loop-state-preserved
loop-state-preserved g c = λ after h. c.loop-state.invariant after
    (first_turn c.args.self.now.dst.now c.as_slice-state-items.result.now c.loop-state.state-index _ c.loop-state-test.true
    c.loop-state.layer c.add.new.self after _ c.in_ok-start.ensures.starts c.in_ok-add.ensures h)

pub returns : goal.returns
returns g c =
    let src = c.args.self.now.src.now in
    let dst = c.args.self.now.dst.now in
    let xs = c.as_slice-state-items.result.now in
    firsts_are src dst c.loop-state.layer
    (subst (λ (z : List ℕ). AreAdded (OfSome (IsFirstOf dst) z) [] c.loop-state.layer) (c.as_slice-state-items.ensures.states ∙ c.in_ok-starts.ensures.starts)
    (c.loop-state.invariant c.loop-state.layer (added_end (IsFirstOf dst) xs c.loop-state.state-index c.loop-state-test.false c.loop-state.layer)))
