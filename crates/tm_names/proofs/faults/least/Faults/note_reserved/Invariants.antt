use Rattle.std.proofs.Common.{◌≡◌, drop}
use Rattle.tm_names.specs.Found.{reserved}
use Rattle.tm_names.specs.Least.{earliest}
use Rattle.tm_names.specs.Source.{names_in}
use Rattle.tm_names.proofs.faults.least.Faults.note_reserved.Given as goal

abbrev pub invariant-loop-place : goal.invariant-loop-place
invariant-loop-place l = record {
  file : l.self.file ≡ l.initial.self.file;
  all : earliest l.self.first (reserved (names_in l.source) (drop l.place-index l.places)) ≡ earliest l.initial.self.first (reserved (names_in l.initial.self.file.source) l.fn.places);
}
