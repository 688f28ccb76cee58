-- Each array that is written in a type has a length within the limit.
use Rattle.std.proofs.Common.{refl}
use Rattle.std.proofs.lemmas.Bool.{le-leb}
use Rattle.std.specs.Prelude.{IsTrue}
use Rattle.tm_base.specs.declared.limit.LimitKind.TheVariants as limit
use Rattle.tm_parse.proofs.bounds.EachType.{KeepsTypes}
use Rattle.tm_parse.proofs.bounds.TypeKeeping.{KeepsKinds, keeps_written}
use Rattle.tm_parse.specs.Bounds.{is_short, HasShortArrays}
use Rattle.tm_base.specs.Limits.{limit_number}
use Rattle.tm_parse.specs.declared.terminal.Terminal.{Terminal}

abbrev Any : Terminal → Type 0
Any t = Unit {0}

kinds : KeepsKinds Any (λ t. IsTrue (is_short t))
kinds = record {
  prim = λ p. refl;
  never = refl;
  tuple = λ ts. refl;
  array = λ t n l. le-leb n (limit_number limit.ArrayLength) l;
  wrap = λ w t. refl;
  ref = λ t unique inner h. refl;
  nonzero = λ t h is. refl;
  aliased = λ t h is. refl;
  named = λ t lifetimes ts h others. refl;
}

pub keeps_lengths : KeepsTypes Any HasShortArrays
keeps_lengths = keeps_written Any (λ t. IsTrue (is_short t)) kinds
