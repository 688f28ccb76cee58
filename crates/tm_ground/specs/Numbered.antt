-- Types by numbers: a number is a place in the list of the named types, or in that of the references.
use Rattle.std.specs.Prelude.{◌≡◌, ◌≤◌, List, [], ◌∷◌, length, Contains, Some, slice_get}
use Rattle.tm_base.specs.declared.cell.RefId.{RefId}
use Rattle.tm_base.specs.declared.ground.Ground.{Ground, Prim, Never, Unit as the_unit, Tuple, Array, Named, NonZero, Wrap, Ref}
use Rattle.tm_base.specs.declared.ground.NamedId.{NamedId}
use Rattle.tm_ground.specs.Closed.{Closed, Elements, prim, never, tuple, array, nonzero, wrap, named, ref, no_elements, element}
use Rattle.tm_ground.specs.Growing.{IsWithin}
use Rattle.tm_ground.specs.Written.{named_in, refs_in}
use Rattle.tm_ground.specs.Limits.{type_limit, ref_limit}

module _ (rows refs : List Closed) where
  -- the lists are short, and have the named types and the references that are written in a type
  pub record HasNumbers (c : Closed) : Type 0 where
    pub few_rows : length rows ≤ type_limit
    pub few_refs : length refs ≤ ref_limit
    pub rows_within : IsWithin (named_in c) rows
    pub refs_within : IsWithin (refs_in c) refs

  -- so they have those of each of some types
  pub record HaveNumbers (cs : List Closed) : Type 0 where
    pub each : (c : Closed) → Contains cs c → HasNumbers c

  -- a type with these numbers is the closed type
  unfoldable mutual
    pub IsNumbered : Closed → Ground → Type 0
    IsNumbered (prim p) g = g ≡ Prim p
    IsNumbered never g = g ≡ Never
    IsNumbered (tuple no_elements) g = g ≡ the_unit
    IsNumbered (tuple (element c cs)) g = (h : Ground) × (hs : List Ground) × (g ≡ Tuple (h ∷ hs)) × IsNumbered c h × EachNumbered cs hs
    IsNumbered (array c n) g = (h : Ground) × (g ≡ Array h n) × IsNumbered c h
    IsNumbered (nonzero p) g = g ≡ NonZero p
    IsNumbered (wrap w c) g = (h : Ground) × (g ≡ Wrap w h) × IsNumbered c h
    IsNumbered (named def regions args) g = (id : NamedId) × (g ≡ Named id) × (slice_get rows id.0 ≡ Some (named def regions args))
    IsNumbered (ref region mutable c) g = (r : RefId) × (g ≡ Ref r) × (slice_get refs r.0 ≡ Some (ref region mutable c))

    pub EachNumbered : Elements → List Ground → Type 0
    EachNumbered no_elements hs = hs ≡ []
    EachNumbered (element c cs) [] = ⊥
    EachNumbered (element c cs) (h ∷ hs) = IsNumbered c h × EachNumbered cs hs
