use Rattle.std.proofs.Common.{◌≡◌, ◌++◌, drop, map}
use Rattle.tm_names.specs.Resolutions.{variant_types}
use Rattle.tm_names.specs.Source.{names_in}
use Rattle.tm_names.proofs.file.File.types.Given as goal

abbrev pub invariant-loop-variant : goal.invariant-loop-variant
invariant-loop-variant l =
    l.types ++ map (variant_types (names_in l.self.source) l.self.definitions.now.decls.now l.declared) (drop l.variant-index l.variant-items)
    ≡ map (variant_types (names_in l.fn.self.source) l.fn.self.definitions.now.decls.now l.fn.declared) l.fn.declared.variants
