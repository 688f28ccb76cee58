use Rattle.tm_walk.proofs.LayerLemmas.{offered_both}
use Rattle.tm_walk.proofs.layer.both.Goals as goal

pub returns : goal.returns
returns c = rw c.in_ok-new.ensures.ok (offered_both _ _ _ _ _ c.new-several.ensures c.in_ok-offer.ensures c.in_ok-offer-2.ensures)
