-- All name faults of a file under a profile, listed part by part, where it is told which definitions hold
-- themselves.
use Rattle.std.specs.Prelude.{ℕ, Bool, Option, Some, None, List, ◌++◌, map, flat_map}
use Rattle.tm_base.specs.declared.profile.Profile.{Profile}
use Rattle.tm_names.specs.declared.faults.least.NameFault.{NameFault}
use Rattle.tm_names.specs.Faults.{HasNoFault, IsFirstFault}
use Rattle.tm_names.specs.Closures.{infinite_faults}
use Rattle.tm_names.specs.Found.{decl_faults, repeats, reserved, scope_faults}
use Rattle.tm_names.specs.Scopes.{outer_scope}
use Rattle.tm_parse.specs.declared.parsed.Parsed.{Parsed}

abbrev pub file_faults : Profile → (ℕ → List ℕ) → Parsed → (ℕ → Bool) → List NameFault
file_faults profile name file infinite =
    repeats name (map (λ d. d.name) file.decls)
    ++ (repeats name file.lifetimes
    ++ (reserved name file.lifetimes
    ++ (flat_map (decl_faults profile name file.decls) file.decls
    ++ (scope_faults name file.decls (outer_scope file)
    ++ infinite_faults infinite file.decls))))

-- the first fault of a file, or none where it has none
abbrev pub IsFirst : Profile → (ℕ → List ℕ) → Parsed → Option NameFault → Type 0
IsFirst profile name file None = HasNoFault profile name file
IsFirst profile name file (Some fault) = IsFirstFault profile name file fault.why fault.place
