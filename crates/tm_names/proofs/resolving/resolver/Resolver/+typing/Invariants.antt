use Rattle.std.proofs.Common.{◌≡◌, ◌++◌, drop, map}
use Rattle.tm_names.specs.Meanings.{meaning_of}
use Rattle.tm_names.specs.Resolutions.{type_of}
use Rattle.tm_names.specs.Sights.{life_in, types_in}
use Rattle.tm_names.specs.Source.{names_in}
use Rattle.tm_names.proofs.resolving.resolver.Resolver.+typing.Given as goal

abbrev pub invariant-resolve_all-loop-ty : goal.invariant-resolve_all-loop-ty
invariant-resolve_all-loop-ty l =
    l.found ++ map (type_of (meaning_of (names_in l.self.file.source) l.self.file.definitions.now.decls.now (types_in l.self.sight)) (life_in (names_in l.self.file.source) l.self.sight)) (drop l.ty-index l.types)
    ≡ map (type_of (meaning_of (names_in l.self.file.source) l.self.file.definitions.now.decls.now (types_in l.self.sight)) (life_in (names_in l.self.file.source) l.self.sight)) l.types
