use Rattle.std.proofs.Common.{◌∙◌}
use Rattle.tm_io.proofs.ToldLemmas.{adds_more}
use Rattle.tm_io.proofs.writing.write_all.Goals as goal

pub loop-rest-preserved : goal.loop-rest-preserved
loop-rest-preserved g c = record {
  kept = c.in-Ok.ensures.cause.kept ∙ c.loop-rest.invariant.kept;
  added = adds_more _ _ _ _ c.loop-rest.rest.now c.in-Ok.count c.loop-rest.invariant.added c.in-Ok.ensures.bytes;
}
