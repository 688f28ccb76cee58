use Rattle.std.proofs.Common.{refl}
use Rattle.tm_names.proofs.TypeLemmas.{type_of_array, type_of_named, type_of_ref, type_of_tuple, type_of_wrap}
use Rattle.tm_names.proofs.resolving.resolver.Resolver.+typing.Goals as goal

pub resolve-returns-in_ok-elements-in-Tuple : goal.resolve-returns-in_ok-elements-in-Tuple
resolve-returns-in_ok-elements-in-Tuple t c =
    rw (c.in-Tuple.is, type_of_tuple, ← c.as_slice.ensures, ← c.in_ok-elements-in-Tuple.ensures) refl

pub resolve-returns-in_ok-new-in-Array : goal.resolve-returns-in_ok-new-in-Array
resolve-returns-in_ok-new-in-Array t c =
    rw (c.in-Array.is, type_of_array, ← c.get.ensures, ← c.in_ok-element-in-Array.ensures, c.in_ok-new-in-Array.ensures) refl

pub resolve-returns-in_ok-new-in-Wrap : goal.resolve-returns-in_ok-new-in-Wrap
resolve-returns-in_ok-new-in-Wrap t c =
    rw (c.in-Wrap.is, type_of_wrap, ← c.get-in-Wrap.ensures, ← c.in_ok-argument-in-Wrap.ensures, c.in_ok-new-in-Wrap.ensures) refl

pub resolve-returns-in_ok-types-in-Named : goal.resolve-returns-in_ok-types-in-Named
resolve-returns-in_ok-types-in-Named t c =
    rw (c.in-Named.is, type_of_named, ← c.as_slice-in-Named.ensures, ← c.in_ok-lives-in-Named.ensures, ← c.as_slice-in-Named-2.ensures, ← c.in_ok-types-in-Named.ensures) c.named.ensures

pub resolve-returns-in_ok-new-in-Ref : goal.resolve-returns-in_ok-new-in-Ref
resolve-returns-in_ok-new-in-Ref t c =
    rw (c.in-Ref.is, type_of_ref, ← c.life-life.ensures, ← c.get-in-Ref.ensures, ← c.in_ok-pointee-in-Ref.ensures, c.in_ok-new-in-Ref.ensures) refl
