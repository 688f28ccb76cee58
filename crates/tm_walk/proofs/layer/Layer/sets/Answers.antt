use Rattle.tm_walk.proofs.LayerLemmas.{only_at}
use Rattle.tm_walk.proofs.layer.Layer.sets.Goals as goal

pub returns-in-Some-default : goal.returns-in-Some-default
returns-in-Some-default c = rw (← c.self.view_is, c.in-Some-default.is-0) (only_at c.in-Some-default.only c.args.place (rw (← c.self.view_is, c.in-Some-default.is-0) at c.requires))
