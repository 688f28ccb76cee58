use Rattle.std.proofs.Common.{◌≡◌, drop, take}
use Rattle.tm_names.specs.Found.{repeats, repeats_behind}
use Rattle.tm_names.specs.Least.{earliest}
use Rattle.tm_names.specs.Source.{names_in}
use Rattle.tm_names.proofs.faults.least.Faults.note_repeats.Given as goal

abbrev pub invariant-loop-number : goal.invariant-loop-number
invariant-loop-number l = record {
  file : l.self.file ≡ l.initial.self.file;
  all : earliest l.self.first (repeats_behind (names_in l.source) (take l.number l.places) (drop l.number l.places))
      ≡ earliest l.initial.self.first (repeats (names_in l.initial.self.file.source) l.fn.places);
}
