use Rattle.std.proofs.Common.{◌≡◌, ◌++◌, drop, map}
use Rattle.tm_names.specs.Resolutions.{field_of}
use Rattle.tm_names.specs.Source.{names_in}
use Rattle.tm_names.proofs.file.File.fields.Given as goal

abbrev pub invariant-loop-field : goal.invariant-loop-field
invariant-loop-field l =
    l.fields ++ map (field_of (names_in l.self.source)) (drop l.field-index l.declared) ≡ map (field_of (names_in l.fn.self.source)) l.fn.declared
