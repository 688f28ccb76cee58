use Rattle.std.proofs.Common.{◌-◌}
use Rattle.tm_base.specs.Tables.{expanded_in}
use Rattle.tm_base.specs.Worlds.{tables_of}
use Rattle.tm_validate.proofs.MatchLemmas.{IsBetween}
use Rattle.tm_validate.proofs.refusal.Target.last.Given as goal

-- it goes on with fewer cells, and not with more
abbrev pub invariant-loop-stops : goal.invariant-loop-stops
invariant-loop-stops l =
    let t = expanded_in (tables_of l.self.world.now) l.self.g.now in
    IsBetween l.self.keep_private t l.cells l.goes l.stops

abbrev pub decreases-loop-stops : goal.decreases-loop-stops
decreases-loop-stops l = l.stops - l.goes
