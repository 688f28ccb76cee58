use Rattle.std.proofs.Common.{◌≡◌, ◌++◌, drop, map}
use Rattle.tm_names.specs.Resolutions.{decl_types}
use Rattle.tm_names.specs.Source.{names_in}
use Rattle.tm_names.proofs.file.File.all_types.Given as goal

abbrev pub invariant-loop-decl : goal.invariant-loop-decl
invariant-loop-decl l =
    l.found ++ map (decl_types (names_in l.self.source) l.self.definitions.now.decls.now) (drop l.decl-index l.self.definitions.now.decls.now) ≡ map (decl_types (names_in l.fn.self.source) l.fn.self.definitions.now.decls.now) l.fn.self.definitions.now.decls.now
