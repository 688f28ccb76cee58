use Rattle.std.proofs.Common.{◌≡◌, ◌++◌, drop, map}
use Rattle.tm_names.specs.Held.{parameter_flags}
use Rattle.tm_names.specs.Source.{names_in}
use Rattle.tm_names.proofs.file.File.found_rows.Given as goal

abbrev pub invariant-loop-decl : goal.invariant-loop-decl
invariant-loop-decl l =
    l.rows ++ map (parameter_flags (names_in l.self.source) l.self.definitions.now.decls.now l.own) (drop l.decl-index l.self.definitions.now.decls.now)
    ≡ map (parameter_flags (names_in l.fn.self.source) l.fn.self.definitions.now.decls.now l.fn.own) l.fn.self.definitions.now.decls.now
