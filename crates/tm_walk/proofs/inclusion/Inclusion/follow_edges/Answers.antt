use Rattle.std.proofs.Common.{◌+◌, ◌∙◌, List, drop, sym, subst}
use Rattle.tm_auto.specs.declared.edge.Edge.{Edge}
use Rattle.tm_walk.specs.declared.obligation.Obligation.{Obligation}
use Rattle.tm_walk.specs.Obligations.{AreAdded, FollowsEdge}
use Rattle.tm_walk.proofs.AddedLemmas.{OfSome, added_end}
use Rattle.tm_walk.proofs.FollowLemmas.{edge_taken, edge_left}
use Rattle.tm_walk.proofs.inclusion.Inclusion.follow_edges.Goals as goal
use Rattle.tm_walk.proofs.inclusion.Inclusion.follow_edges.Goals.{then-takes+in_ok-copy+in_ok-add, else-takes}

pub loop-edge-preserved : goal.loop-edge-preserved
loop-edge-preserved g c =
    let es = c.edges-edge-items.result.now in
    let i = c.loop-edge.edge-index in
    let follows = FollowsEdge c.args.symbol c.args.target.now in
    λ after h. c.loop-edge.invariant after (elim c.if-takes.branch [
      | then-takes+in_ok-copy+in_ok-add w ↦ edge_taken c.args.symbol c.args.target.now es i _ c.loop-edge-test.true c.loop-edge.next after w.add.new.self _
          (sym c.takes.ensures ∙ w.if-takes.true) w.in_ok-copy.ensures w.in_ok-add.ensures (subst (λ (z : List Obligation). AreAdded (OfSome follows (drop (i + 1) es)) z after) w.next-is h)
      | else-takes w ↦ edge_left c.args.symbol c.args.target.now es i _ c.loop-edge-test.true c.loop-edge.next after
          (sym c.takes.ensures ∙ w.if-takes.false) (subst (λ (z : List Obligation). AreAdded (OfSome follows (drop (i + 1) es)) z after) w.next-is h)
    ])

pub returns : goal.returns
returns g c =
    let follows = FollowsEdge c.args.symbol c.args.target.now in
    subst (λ (z : List Edge). AreAdded (OfSome follows z) c.args.next.now c.loop-edge.next) c.edges-edge-items.ensures
    (c.loop-edge.invariant c.loop-edge.next (added_end follows c.edges-edge-items.result.now c.loop-edge.edge-index c.loop-edge-test.false c.loop-edge.next))
