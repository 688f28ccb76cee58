use Rattle.std.proofs.Common.{◌≡◌, ◌++◌, drop, map}
use Rattle.tm_names.specs.Resolutions.{def_of}
use Rattle.tm_names.specs.Source.{names_in}
use Rattle.tm_names.proofs.file.File.all_definitions.Given as goal

abbrev pub invariant-loop-decl : goal.invariant-loop-decl
invariant-loop-decl l =
    l.defs ++ map (def_of (names_in l.self.source)) (drop l.decl-index l.self.definitions.now.decls.now) ≡ map (def_of (names_in l.fn.self.source)) l.fn.self.definitions.now.decls.now
