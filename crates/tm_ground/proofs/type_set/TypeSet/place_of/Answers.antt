use Rattle.tm_ground.proofs.finding.SetLemmas.{place-found, place-absent}
use Rattle.tm_ground.proofs.type_set.TypeSet.place_of.Goals as goal

pub returns-clause-found : goal.returns-clause-found
returns-clause-found c = place-found _ _ _ c.in_ok-code.ensures _ c.place.ensures.found

pub returns-clause-absent : goal.returns-clause-absent
returns-clause-absent c = place-absent _ _ _ c.in_ok-code.ensures _ c.place.ensures.absent
