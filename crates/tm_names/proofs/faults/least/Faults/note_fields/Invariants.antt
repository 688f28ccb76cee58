use Rattle.std.proofs.Common.{◌≡◌, drop, map}
use Rattle.std.specs.List.{flat_map}
use Rattle.tm_names.specs.Faults.{field_names}
use Rattle.tm_names.specs.Found.{repeats}
use Rattle.tm_names.specs.Least.{earliest}
use Rattle.tm_names.specs.Source.{names_in}
use Rattle.tm_names.proofs.faults.least.Faults.note_fields.Given as goal

abbrev pub invariant-loop-variant : goal.invariant-loop-variant
invariant-loop-variant l = record {
  file : l.self.file ≡ l.initial.self.file;
  all : earliest l.self.first (flat_map (repeats (names_in l.self.file.source)) (map field_names (drop l.variant-index l.variants)))
      ≡ earliest l.initial.self.first (flat_map (repeats (names_in l.initial.self.file.source)) (map field_names l.fn.variants));
}
