-- A closed type by its names, before types have numbers: a written type with a region in place of each
-- lifetime and a closed type in place of each type parameter.
use Rattle.std.specs.Prelude.{ℕ, suc, ◌+◌, Bool, List, [], ◌∷◌, map, slice_get, unwrap_or}
use Rattle.tm_base.specs.declared.definition.DefId.{DefId}
use Rattle.tm_base.specs.declared.definition.RegionId.{RegionId}
use Rattle.tm_base.specs.declared.ground.Primitive.{Primitive}
use Rattle.tm_base.specs.declared.ground.Wrapper.{Wrapper}
use Rattle.tm_names.specs.declared.resolved.Life.{Life}
use Rattle.tm_names.specs.declared.resolved.Life.TheVariants as life
use Rattle.tm_names.specs.declared.resolved.Open.{Open, Row_of-Open, end_of-Open, more_of-Open, Prim, Never, Tuple', Array', NonZero, Wrap', Named', Ref', Param}

mutual
  pub data Closed : Type 0 where
    prim : Primitive → Closed
    never : Closed
    -- `()` where there is no element
    tuple : Elements → Closed
    array : Closed → ℕ → Closed
    nonzero : Primitive → Closed
    wrap : Wrapper → Closed → Closed
    -- a definition with a region for each of its lifetime parameters and a type for each of its type parameters
    named : DefId → List RegionId → Elements → Closed
    -- its region, whether it is `&mut`, and what it points to
    ref : RegionId → Bool → Closed → Closed

  pub data Elements : Type 0 where
    no_elements : Elements
    element : Closed → Elements → Elements

-- closed types as elements
abbrev pub as_elements : List Closed → Elements
as_elements [] = no_elements
as_elements (c ∷ cs) = element c (as_elements cs)

-- elements as closed types
abbrev pub listed : Elements → List Closed
listed no_elements = []
listed (element c cs) = c ∷ listed cs

-- the region of `'static`
abbrev pub static_region : RegionId
static_region = record { 0 = 0 }

-- the region that a lifetime stands for, where these are the regions of the parameters; `'static` where
-- a parameter has none
abbrev pub region_of : List RegionId → Life → RegionId
region_of regions life.Static = static_region
region_of regions (life.Declared k) = record { 0 = k }
region_of regions (life.Param k) = unwrap_or (slice_get regions k) static_region

-- the type that a type parameter stands for, where these are the arguments; `!` where a parameter has none
abbrev pub argument_of : List Closed → ℕ → Closed
argument_of args k = unwrap_or (slice_get args k) never

-- a written type with its regions and its arguments put in
module _ (regions : List RegionId) (args : List Closed) where
  unfoldable mutual
    pub put_in : Open → Closed
    put_in (Prim p) = prim p
    put_in Never = never
    put_in (Tuple' shape row) = tuple (put_in_all row)
    put_in (Array' shape row n) = array (put_in_first row) n
    put_in (NonZero p) = nonzero p
    put_in (Wrap' w shape row) = wrap w (put_in_first row)
    put_in (Named' def lives shape row) = named def (map (region_of regions) lives) (put_in_all row)
    put_in (Ref' life mutable shape row) = ref (region_of regions life) mutable (put_in_first row)
    put_in (Param k) = argument_of args k

    pub put_in_all : {m : _} → Row_of-Open m → Elements
    put_in_all end_of-Open = no_elements
    put_in_all (more_of-Open t ts) = element (put_in t) (put_in_all ts)

    pub put_in_first : {m : _} → Row_of-Open m → Closed
    put_in_first end_of-Open = never
    put_in_first (more_of-Open t ts) = put_in t

-- a written type without parameters
abbrev pub closed : Open → Closed
closed = put_in [] []

-- the nodes of a type: one and those of its elements, its arguments, its pointee; regions don't count
unfoldable mutual
  pub nodes : Closed → ℕ
  nodes (tuple cs) = suc (nodes_in cs)
  nodes (array c n) = suc (nodes c)
  nodes (wrap w c) = suc (nodes c)
  nodes (named def regions args) = suc (nodes_in args)
  nodes (ref region mutable c) = suc (nodes c)
  nodes c = 1

  pub nodes_in : Elements → ℕ
  nodes_in no_elements = 0
  nodes_in (element c cs) = nodes c + nodes_in cs
