-- What has to be known before pieces and entries are verified.
use Rattle.tm_base.specs.Worlds.{tables_of}
use Rattle.tm_layout.specs.Made.{IsMadeFor}
use Rattle.tm_region.specs.Order.{IsOrderOf}
use Rattle.tm_refute.specs.declared.verifying.verifier.Verifier.{Verifier}
use Rattle.tm_refute.specs.Depths.{AreDepthsOf}
use Rattle.tm_refute.specs.Judged.{AreJudgedRefs}

-- The layouts and the order are those of the world; it is known which pointees are judged, and the least depth at
-- which entries name each pair.
pub record IsReady (verifier : Verifier) : Type 0 where
  pub made : IsMadeFor (tables_of verifier.world.now) verifier.layouts.now
  pub ordered : IsOrderOf verifier.world.now.bounds verifier.order.now
  pub judged : AreJudgedRefs (tables_of verifier.world.now) verifier.judged.items.items
  pub depths : AreDepthsOf verifier.entries.now verifier.depths
