use Rattle.tm_ground.proofs.finding.SetLemmas.{code-found, code-absent}
use Rattle.tm_ground.proofs.type_set.TypeSet.place.Goals as goal

pub returns-clause-found : goal.returns-clause-found
returns-clause-found c =
    rw (← c.self.view_is, ← c.self.invariant) (code-found c.args.code.now c.self.inside.keys.keys _ c.get_index_of.ensures.index)

pub returns-clause-absent : goal.returns-clause-absent
returns-clause-absent c =
    rw (← c.self.view_is, ← c.self.invariant) (code-absent c.args.code.now c.self.inside.keys.keys _ c.get_index_of.ensures.found)
