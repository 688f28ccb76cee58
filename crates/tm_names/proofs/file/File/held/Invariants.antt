use Rattle.std.proofs.Common.{◌≡◌, ◌++◌, drop}
use Rattle.std.specs.List.{flat_map}
use Rattle.tm_names.specs.Held.{decl_held, variant_held}
use Rattle.tm_names.specs.Source.{names_in}
use Rattle.tm_names.proofs.file.File.held.Given as goal

abbrev pub invariant-loop-variant : goal.invariant-loop-variant
invariant-loop-variant l =
    l.found ++ flat_map (variant_held (names_in l.holding.file.source) l.holding.file.definitions.now.decls.now l.holding.own.now l.holding.types.now) (drop l.variant-index l.variant-items)
    ≡ decl_held (names_in l.fn.self.source) l.fn.self.definitions.now.decls.now l.fn.own l.fn.decl
