use Rattle.std.proofs.Common.{◌≡◌, ◌++◌, drop, map}
use Rattle.tm_names.specs.Meanings.{meaning_of}
use Rattle.tm_names.specs.Resolutions.{type_of}
use Rattle.tm_names.specs.Sights.{life_in, types_in}
use Rattle.tm_names.specs.Source.{names_in}
use Rattle.tm_names.proofs.resolving.resolver.Resolver.field_types.Given as goal

abbrev pub invariant-loop-field : goal.invariant-loop-field
invariant-loop-field l =
    let resolved = type_of (meaning_of (names_in l.self.file.source) l.self.file.definitions.now.decls.now (types_in l.self.sight)) (life_in (names_in l.self.file.source) l.self.sight) in
    l.types ++ map (λ field. resolved field.ty) (drop l.field-index l.field-items) ≡ map (λ field. resolved field.ty) l.declared.fields
