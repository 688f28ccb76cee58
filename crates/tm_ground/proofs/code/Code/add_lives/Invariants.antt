use Rattle.std.proofs.Common.{◌≡◌, ◌++◌, map, drop}
use Rattle.tm_ground.specs.Closed.{region_of}
use Rattle.tm_ground.specs.Codes.{codes_of_regions}
use Rattle.tm_ground.proofs.code.Code.add_lives.Given as goal

-- the regions of the lifetimes that are left are still to be added
abbrev pub invariant-loop-life : goal.invariant-loop-life
invariant-loop-life l =
    l.self.numbers.items ++ codes_of_regions (map (region_of l.regions) (drop l.life-index l.lives)) ≡ l.initial.self.numbers.items ++ codes_of_regions (map (region_of l.regions) l.lives)
