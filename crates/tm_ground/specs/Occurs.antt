-- Which closed types a file's questions lead to.
use Rattle.std.specs.Prelude.{ℕ, nat_le, Bool, true, false, if◌then◌else◌, IsTrue, List, [], ◌∷◌, ◌++◌, map, flat_map, Contains, slice_get, unwrap_or}
use Rattle.tm_base.specs.declared.definition.DefId.{DefId}
use Rattle.tm_base.specs.declared.definition.RegionId.{RegionId}
use Rattle.tm_base.specs.declared.ground.Wrapper.{Wrapper}
use Rattle.tm_base.specs.declared.ground.Wrapper.TheVariants.{PhantomData}
use Rattle.tm_names.specs.declared.resolved.Open.{Open}
use Rattle.tm_names.specs.declared.resolved.OpenAsk.{OpenAsk}
use Rattle.tm_names.specs.declared.resolved.Resolved.{Resolved}
use Rattle.tm_base.specs.declared.limit.LimitKind.TheVariants.{ClosedNodes}
use Rattle.tm_base.specs.Limits.{limit_number}
use Rattle.tm_ground.specs.Closed.{Closed, tuple, array, wrap, named, ref, closed, listed, nodes, put_in}

-- the types of a definition's fields, a list for each variant; none where the number names no definition
abbrev pub written_fields : Resolved → DefId → List (List Open)
written_fields resolved def = unwrap_or (slice_get resolved.types def.0) []

-- the same with its regions and its arguments put in
abbrev pub field_types : Resolved → DefId → List RegionId → List Closed → List (List Closed)
field_types resolved def regions args = map (map (put_in regions args)) (written_fields resolved def)

-- the fields of all variants
abbrev pub all_fields : List RegionId → List Closed → List (List Open) → List Closed
all_fields regions args variants = flat_map (λ types. types) (map (map (put_in regions args)) variants)

abbrev pub fields_of : Resolved → DefId → List RegionId → List Closed → List Closed
fields_of resolved def regions args = all_fields regions args (written_fields resolved def)

-- the types that a type is written with, but for a named type's arguments: its elements, the argument of a
-- wrapper, what it points to
abbrev pub parts_in : Closed → List Closed
parts_in (tuple cs) = listed cs
parts_in (array c n) = c ∷ []
parts_in (wrap w c) = c ∷ []
parts_in (ref region mutable c) = c ∷ []
parts_in c = []

-- what a type is made of: the types that it is written with, and its fields
abbrev pub parts_of : Resolved → Closed → List Closed
parts_of resolved (named def regions args) = listed args ++ fields_of resolved def regions (listed args)
parts_of resolved c = parts_in c

-- what a named type is made of; nothing where it is no named type
abbrev pub inside_of : Resolved → Closed → List Closed
inside_of resolved (named def regions args) = listed args ++ fields_of resolved def regions (listed args)
inside_of resolved c = []

-- a wrapper holds its argument by value, but `PhantomData`
abbrev pub is_holding : Wrapper → Bool
is_holding PhantomData = false
is_holding w = true

-- the types that a type is written with and holds by value: not what it points to
abbrev pub parts_held : Closed → List Closed
parts_held (tuple cs) = listed cs
parts_held (array c n) = c ∷ []
parts_held (wrap w c) = if is_holding w then c ∷ [] else []
parts_held c = []

-- what a type holds by value: those, or its fields
abbrev pub parts_by_value : Resolved → Closed → List Closed
parts_by_value resolved (named def regions args) = fields_of resolved def regions (listed args)
parts_by_value resolved c = parts_held c

-- both sides of a question, and of each question
abbrev pub sides_of : OpenAsk → List Closed
sides_of ask = closed ask.src ∷ closed ask.dst ∷ []

abbrev pub asked_in : List OpenAsk → List Closed
asked_in asks = flat_map sides_of asks

abbrev pub asked_types : Resolved → List Closed
asked_types resolved = asked_in resolved.asks

-- the limit on the nodes of a type, as far as its number goes
abbrev pub node_limit : ℕ
node_limit = limit_number ClosedNodes

-- a type has no more nodes than the limit allows
abbrev pub is_small : Closed → Bool
is_small c = nat_le (nodes c) node_limit

-- a type occurs as a side of a question, or as a part of one that occurs and has no more nodes than it may
pub data Occurs (resolved : Resolved) : Closed → Type 0 where
  is_asked : (c : Closed) → Contains (asked_types resolved) c → Occurs resolved c
  is_part : (whole c : Closed) → Occurs resolved whole → IsTrue (is_small whole) → Contains (parts_of resolved whole) c → Occurs resolved c
