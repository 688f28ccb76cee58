-- The types that are written in a type, those in the arguments of a named one apart.
use Rattle.std.specs.Prelude.{List, [], ◌∷◌, ◌++◌, filter}
use Rattle.tm_ground.specs.Closed.{Closed, Elements, tuple, array, wrap, ref, no_elements, element}
use Rattle.tm_ground.specs.Limits.{is_named, is_ref}

-- the type, and those that are written in it, at any depth; not those in the arguments of a named type
unfoldable mutual
  pub written_in : Closed → List Closed
  written_in (tuple cs) = tuple cs ∷ written_in_all cs
  written_in (array c n) = array c n ∷ written_in c
  written_in (wrap w c) = wrap w c ∷ written_in c
  written_in (ref region mutable c) = ref region mutable c ∷ written_in c
  written_in c = c ∷ []

  pub written_in_all : Elements → List Closed
  written_in_all no_elements = []
  written_in_all (element c cs) = written_in c ++ written_in_all cs

-- the named types that are written in a type, and the reference types
abbrev pub named_in : Closed → List Closed
named_in c = filter is_named (written_in c)

abbrev pub refs_in : Closed → List Closed
refs_in c = filter is_ref (written_in c)
