-- Where each terminal for an integer type carries one, each `NonZero` that is written in a type is of one.
use Rattle.std.proofs.Common.{refl, [], ◌∷◌}
use Rattle.tm_parse.proofs.grammar.ClassLists.{among-left, among-right}
use Rattle.tm_parse.proofs.bounds.EachType.{KeepsTypes}
use Rattle.tm_parse.proofs.bounds.TypeKeeping.{KeepsKinds, keeps_written}
use Rattle.tm_parse.specs.Bounds.{is_of_integer, HasIntegers, CarriesInteger}
use Rattle.tm_parse.specs.Types.{integer, alias}
use Rattle.std.specs.Prelude.{IsTrue}

kinds : KeepsKinds CarriesInteger (λ t. IsTrue (is_of_integer t))
kinds = record {
  prim = λ p. refl;
  never = refl;
  tuple = λ ts. refl;
  array = λ t n l. refl;
  wrap = λ w t. refl;
  ref = λ t unique inner carries. refl;
  nonzero = λ t h carries. carries (among-left (integer ∷ []) (alias ∷ []) t.class h);
  aliased = λ t h carries. carries (among-right (integer ∷ []) (alias ∷ []) t.class h);
  named = λ t lifetimes ts h carries. refl;
}

pub keeps_integers : KeepsTypes CarriesInteger HasIntegers
keeps_integers = keeps_written CarriesInteger (λ t. IsTrue (is_of_integer t)) kinds
