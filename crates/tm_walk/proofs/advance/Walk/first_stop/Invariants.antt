use Rattle.std.proofs.Common.{◌≡◌, ℕ, ◌<◌, false, Some, slice_get}
use Rattle.tm_walk.specs.Layers.{is_live, Entry}
use Rattle.tm_walk.proofs.advance.Walk.first_stop.Given as goal

-- it stops on none of the pairs before this one
abbrev pub invariant-loop-k : goal.invariant-loop-k
invariant-loop-k g l = (j : ℕ) (e : Entry) → j < l.k → slice_get l.layer j ≡ Some e → g.Q.Quantifier.stop l.self.quantifier.now (is_live e.dst) l.at_end ≡ false
