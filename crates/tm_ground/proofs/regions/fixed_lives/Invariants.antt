use Rattle.std.proofs.Common.{◌≡◌, [], map, take}
use Rattle.tm_ground.specs.Closed.{region_of}
use Rattle.tm_ground.proofs.regions.fixed_lives.Given as goal

-- the regions made so far are those of the first lifetimes
abbrev pub invariant-loop-life : goal.invariant-loop-life
invariant-loop-life l = map (region_of []) l.fixed ≡ map (region_of l.regions) (take l.life-index l.lives)
