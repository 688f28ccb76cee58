use Rattle.std.proofs.Common.{◌≡◌, ◌++◌, drop, map}
use Rattle.tm_names.specs.Resolutions.{regions_of}
use Rattle.tm_names.specs.Source.{names_in}
use Rattle.tm_names.proofs.file.File.all_regions.Given as goal

abbrev pub invariant-loop-place : goal.invariant-loop-place
invariant-loop-place l =
    l.regions ++ map (names_in l.self.source) (drop l.place-index l.lifetimes) ≡ regions_of (names_in l.fn.self.source) l.fn.lifetimes
