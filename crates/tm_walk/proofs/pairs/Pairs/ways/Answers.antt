use Rattle.std.proofs.Common.{◌∙◌}
use Rattle.tm_walk.proofs.PairLemmas.{ways_are}
use Rattle.tm_walk.proofs.pairs.Pairs.ways.Goals as goal

pub returns : goal.returns
returns c = rw (← c.self.view_is) (c.as_slice.ensures ∙ c.values.ensures.rest ∙ ways_are c.self.inside.sources c.self.inside.targets c.self.inside.pairs.entries)
