use Rattle.std.proofs.Common.{◌≡◌, ◌++◌, drop, map}
use Rattle.tm_names.specs.Held.{no_flags}
use Rattle.tm_names.proofs.file.File.no_flags.Given as goal

abbrev pub invariant-loop-decl : goal.invariant-loop-decl
invariant-loop-decl l =
    l.rows ++ map no_flags (drop l.decl-index l.self.definitions.now.decls.now) ≡ map no_flags l.fn.self.definitions.now.decls.now
