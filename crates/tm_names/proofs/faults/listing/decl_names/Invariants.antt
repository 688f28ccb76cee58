use Rattle.std.proofs.Common.{◌≡◌, ◌++◌, drop, map}
use Rattle.tm_names.proofs.faults.listing.decl_names.Given as goal

abbrev pub invariant-loop-decl : goal.invariant-loop-decl
invariant-loop-decl l =
    l.names ++ map (λ d. d.name) (drop l.decl-index l.decls) ≡ map (λ d. d.name) l.fn.decls
