use Rattle.std.proofs.Common.{sym, ◌∙◌}
use Rattle.tm_walk.proofs.OfferLemmas.{started, unstarted}
use Rattle.tm_walk.proofs.advance.Walk.start.Goals as goal
use Rattle.tm_walk.proofs.advance.Walk.start.Goals.{then-is_live+in_ok-dst+in_ok-offer, else-is_live}

pub returns : goal.returns
returns g c =
    elim c.if-is_live.branch [
      | then-is_live+in_ok-dst+in_ok-offer w ↦ rw w.layer-is (started _ _ _ _ _ _ _ c.in_ok-src.ensures.starts w.in_ok-dst.ensures.starts (sym c.is_live.ensures ∙ w.if-is_live.true) _ c.new-layer.ensures w.in_ok-offer.ensures)
      | else-is_live w ↦ rw w.layer-is (unstarted _ _ _ _ c.in_ok-src.ensures.starts (sym c.is_live.ensures ∙ w.if-is_live.false) c.new-layer.ensures)
    ]
