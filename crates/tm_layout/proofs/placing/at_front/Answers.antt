use Rattle.std.proofs.Common.{◌+◌, ◌++◌, ap, ◌∙◌, drop}
use Rattle.tm_base.specs.Places.{at_front}
use Rattle.tm_layout.specs.Reckoned.{layouts_in}
use Rattle.tm_layout.proofs.PlaceLemmas.{at_front-next}
use Rattle.tm_layout.proofs.placing.at_front.Goals as goal

pub loop-preserved : goal.loop-preserved
loop-preserved c =
    ap (λ ps. ps ++ at_front (layouts_in (drop (c.loop.index + 1) c.args.fields.now))) c.in_ok-add.ensures.added
    ∙ at_front-next c.args.fields.now c.loop.index c.loop.found _ c.loop-test.true c.loop.invariant
