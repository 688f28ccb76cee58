use Rattle.std.proofs.Common.{◌≡◌, ◌++◌, Some, drop}
use Rattle.std.specs.List.{enumerate_from, flat_map}
use Rattle.tm_names.specs.Held.{argument_held, held_in}
use Rattle.tm_names.specs.Source.{names_in}
use Rattle.tm_names.proofs.faults.holding.Holding.+holding.Given as goal

abbrev pub invariant-add_parts-loop-part : goal.invariant-add_parts-loop-part
invariant-add_parts-loop-part l =
    l.found ++ flat_map (held_in (names_in l.self.file.source) l.self.file.definitions.now.decls.now l.self.own.now l.self.types.now) (drop l.part-index l.parts) ≡ l.initial.found ++ flat_map (held_in (names_in l.self.file.source) l.self.file.definitions.now.decls.now l.self.own.now l.self.types.now) l.parts

abbrev pub invariant-add_arguments-loop-number : goal.invariant-add_arguments-loop-number
invariant-add_arguments-loop-number l =
    l.found ++ flat_map (argument_held (names_in l.self.file.source) l.self.file.definitions.now.decls.now l.self.own.now l.self.types.now (Some l.meaning)) (enumerate_from l.number (drop l.number l.arguments))
    ≡ l.initial.found ++ flat_map (argument_held (names_in l.self.file.source) l.self.file.definitions.now.decls.now l.self.own.now l.self.types.now (Some l.meaning)) (enumerate_from 0 l.arguments)
