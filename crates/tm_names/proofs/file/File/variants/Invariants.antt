use Rattle.std.proofs.Common.{◌≡◌, ◌++◌, drop, map}
use Rattle.std.specs.Prelude.{IsTrue}
use Rattle.std.specs.List.{list_all}
use Rattle.tm_names.specs.Discriminants.{valued, valued_from}
use Rattle.tm_names.specs.Narrow.{is_value_narrow}
use Rattle.tm_names.specs.Resolutions.{variant_of}
use Rattle.tm_names.specs.Source.{names_in}
use Rattle.tm_names.specs.Values.{int_of}
use Rattle.tm_names.proofs.file.File.variants.Given as goal

abbrev pub invariant-loop-item : goal.invariant-loop-item
invariant-loop-item l = record {
  all : l.variants ++ map (variant_of (names_in l.self.source)) (valued_from (int_of l.implied) (drop l.item-index l.declared))
      ≡ map (variant_of (names_in l.fn.self.source)) (valued l.fn.declared);
  narrow : IsTrue (list_all (λ v. is_value_narrow v.value) (valued_from (int_of l.implied) (drop l.item-index l.declared)));
}
