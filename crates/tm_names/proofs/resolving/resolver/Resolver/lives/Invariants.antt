use Rattle.std.proofs.Common.{◌≡◌, ◌++◌, drop, map}
use Rattle.tm_names.specs.Sights.{life_in}
use Rattle.tm_names.specs.Source.{names_in}
use Rattle.tm_names.proofs.resolving.resolver.Resolver.lives.Given as goal

abbrev pub invariant-loop-place : goal.invariant-loop-place
invariant-loop-place l =
    l.lives ++ map (life_in (names_in l.self.file.source) l.self.sight) (drop l.place-index l.places) ≡ map (life_in (names_in l.fn.self.file.source) l.fn.self.sight) l.fn.places
