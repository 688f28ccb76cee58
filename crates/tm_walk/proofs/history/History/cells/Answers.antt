use Rattle.tm_walk.proofs.WayLemmas.{leads_within}
use Rattle.tm_walk.proofs.history.History.cells.Goals as goal

pub way_at-way-requires : goal.way_at-way-requires
way_at-way-requires c = rw c.deref.ensures (leads_within _ _ c.in-Some.ways.now c.loop-ways.at c.in-Some.ensures.cases.0 c.loop-ways.invariant.leads)
