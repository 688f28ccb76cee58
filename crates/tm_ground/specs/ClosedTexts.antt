-- Canonical texts of closed types, and types in the order of theirs.
use Rattle.std.specs.Prelude.{ℕ, if◌then◌else◌, List, [], ◌∷◌, ◌++◌, map, slice_get, IsSorted, codes, decimal}
use Rattle.std.specs.Cmp.Lexicographic.{slice_cmp}
use Rattle.std.specs.Ordering.{nat_cmp}
use Rattle.tm_base.specs.Tables.{Tables}
use Rattle.tm_base.specs.Texts.{applied, def_text, prim_text, region_text, tuple_text, wrapper_text}
use Rattle.tm_names.specs.declared.resolved.Resolved.{Resolved}
use Rattle.tm_ground.specs.Closed.{Closed, Elements, prim, never, tuple, array, nonzero, wrap, named, ref, no_elements, element}

-- what a file says of its types, before there are rows
abbrev pub tables_of_file : Resolved → Tables
tables_of_file resolved = record { profile = resolved.profile; defs = resolved.defs; regions = resolved.regions; bounds = resolved.bounds; named = []; refs = [] }

module _ (resolved : Resolved) where
  -- a closed type as it is written, with its regions' names
  unfoldable mutual
    pub closed_text : Closed → List ℕ
    closed_text (prim p) = prim_text p
    closed_text never = codes "!"
    closed_text (tuple cs) = tuple_text (closed_texts cs)
    closed_text (array c n) = codes "[" ++ closed_text c ++ codes "; " ++ decimal n ++ codes "]"
    closed_text (nonzero p) = applied (codes "NonZero") (prim_text p)
    closed_text (wrap w c) = applied (wrapper_text w) (closed_text c)
    closed_text (named def regions args) = def_text (slice_get resolved.defs def.0) (map (region_text (tables_of_file resolved)) regions ++ closed_texts args)
    closed_text (ref region mutable c) = codes "&" ++ region_text (tables_of_file resolved) region ++ (if mutable then codes " mut " else codes " ") ++ closed_text c

    pub closed_texts : Elements → List (List ℕ)
    closed_texts no_elements = []
    closed_texts (element c cs) = closed_text c ∷ closed_texts cs

  -- types whose texts don't fall in byte order
  abbrev pub AreInOrder : List Closed → Type 0
  AreInOrder cs = IsSorted (slice_cmp nat_cmp) (map closed_text cs)
