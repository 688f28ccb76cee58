use Rattle.std.proofs.Common.{◌≡◌, [], drop}
use Rattle.tm_names.specs.Found.{value_faults}
use Rattle.tm_names.specs.Least.{earliest}
use Rattle.tm_names.specs.declared.value.Value.TheVariants.{AtLeastZero}
use Rattle.tm_names.proofs.faults.least.Faults.note_values.Given as goal

abbrev pub invariant-loop-variant : goal.invariant-loop-variant
invariant-loop-variant l = record {
  file : l.self.file ≡ l.initial.self.file;
  all : earliest l.self.first (value_faults l.profile l.tag l.before l.implied (drop l.variant-index l.variants))
      ≡ earliest l.initial.self.first (value_faults l.initial.self.file.source.profile l.fn.tag [] (AtLeastZero 0) l.fn.variants);
}
