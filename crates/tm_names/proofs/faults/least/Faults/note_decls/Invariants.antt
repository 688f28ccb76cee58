use Rattle.std.proofs.Common.{◌≡◌, drop}
use Rattle.std.specs.List.{flat_map}
use Rattle.tm_names.specs.Found.{decl_faults}
use Rattle.tm_names.specs.Least.{earliest}
use Rattle.tm_names.specs.Source.{names_in}
use Rattle.tm_names.proofs.faults.least.Faults.note_decls.Given as goal

abbrev pub invariant-loop-decl : goal.invariant-loop-decl
invariant-loop-decl l = record {
  file : l.self.file ≡ l.initial.self.file;
  all : earliest l.self.first (flat_map (decl_faults l.self.file.source.profile (names_in l.self.file.source) l.self.file.definitions.now.decls.now) (drop l.decl-index l.decls))
      ≡ earliest l.initial.self.first (flat_map (decl_faults l.initial.self.file.source.profile (names_in l.initial.self.file.source) l.initial.self.file.definitions.now.decls.now) l.initial.self.file.definitions.now.decls.now);
}
