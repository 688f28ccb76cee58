use Rattle.std.proofs.Common.{◌≡◌, ◌++◌, drop, map}
use Rattle.tm_names.specs.Resolutions.{bound_of}
use Rattle.tm_names.specs.Source.{names_in}
use Rattle.tm_names.proofs.file.File.all_bounds.Given as goal

abbrev pub invariant-loop-item : goal.invariant-loop-item
invariant-loop-item l =
    l.bounds ++ map (bound_of (names_in l.self.source) l.lifetimes.places.now) (drop l.item-index l.declared) ≡ map (bound_of (names_in l.fn.self.source) l.fn.lifetimes.places.now) l.fn.declared
