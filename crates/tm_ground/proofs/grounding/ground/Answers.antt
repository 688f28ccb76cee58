use Rattle.tm_ground.proofs.finding.CollectedLemmas.{no-more-types, no-more-refs}
use Rattle.tm_ground.proofs.grounding.ground.Goals as goal

pub returns-in-Ok-clause-fits : goal.returns-in-Ok-clause-fits
returns-in-Ok-clause-fits c =
    let whole = c.in_ok-found.ensures.whole in
    record { types = no-more-types _ _ _ whole; nodes = whole.small; refs = no-more-refs _ _ _ whole; depth = c.in_ok-rows.ensures.shallow }
