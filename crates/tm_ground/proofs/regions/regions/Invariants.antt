use Rattle.std.proofs.Common.{◌≡◌, [], map, take}
use Rattle.tm_ground.specs.Closed.{region_of}
use Rattle.tm_ground.proofs.regions.regions.Given as goal

-- the regions so far are those of the first lifetimes
abbrev pub invariant-loop-life : goal.invariant-loop-life
invariant-loop-life l = l.regions ≡ map (region_of []) (take l.life-index l.lives)
