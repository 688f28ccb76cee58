use Rattle.tm_walk.proofs.InclusionLemmas.{IsLayer}
use Rattle.tm_walk.proofs.inclusion.Inclusion.holds.Given as goal

abbrev pub invariant-loop-place : goal.invariant-loop-place
invariant-loop-place g l = IsLayer (g.M.RefTest.test l.self.refs.now) l.self.src.now l.self.dst.now l.place l.layer
