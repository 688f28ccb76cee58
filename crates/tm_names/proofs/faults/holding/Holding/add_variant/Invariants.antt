use Rattle.std.proofs.Common.{◌≡◌, ◌++◌, drop}
use Rattle.std.specs.List.{flat_map}
use Rattle.tm_names.specs.Held.{held_in, variant_held}
use Rattle.tm_names.specs.Source.{names_in}
use Rattle.tm_names.proofs.faults.holding.Holding.add_variant.Given as goal

abbrev pub invariant-loop-field : goal.invariant-loop-field
invariant-loop-field l =
    l.found ++ flat_map (λ field. held_in (names_in l.self.file.source) l.self.file.definitions.now.decls.now l.self.own.now l.self.types.now field.ty) (drop l.field-index l.field-items)
    ≡ l.initial.found ++ variant_held (names_in l.fn.self.file.source) l.fn.self.file.definitions.now.decls.now l.fn.self.own.now l.fn.self.types.now l.fn.variant
