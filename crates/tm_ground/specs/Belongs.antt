-- When a world belongs to a file and a profile.
use Rattle.std.specs.Prelude.{◌≡◌, ℕ, List, [], ◌∷◌, map, length, All, Contains, Some, slice_get, IsSorted}
use Rattle.std.specs.Ordering.{nat_cmp}
use Rattle.std.specs.Cmp.Lexicographic.{slice_cmp}
use Rattle.std.specs.List.{AllZip, range_with_len}
use Rattle.tm_base.specs.declared.ask.Ask.{Ask}
use Rattle.tm_base.specs.declared.cell.RefId.{RefId}
use Rattle.tm_base.specs.declared.definition.NamedRow.{NamedRow}
use Rattle.tm_base.specs.declared.definition.RefRow.{RefRow}
use Rattle.tm_base.specs.declared.ground.Ground.{Ground, Prim, Never, Unit as the_unit, Tuple, Array, Named, NonZero, Wrap, Ref}
use Rattle.tm_base.specs.declared.ground.NamedId.{NamedId}
use Rattle.tm_base.specs.declared.world.World.{World}
use Rattle.tm_base.specs.Texts.{text_of}
use Rattle.tm_base.specs.Whole.{AreDistinct}
use Rattle.tm_base.specs.Worlds.{tables_of}
use Rattle.tm_names.specs.declared.resolved.OpenAsk.{OpenAsk}
use Rattle.tm_names.specs.declared.resolved.Resolved.{Resolved}
use Rattle.tm_ground.specs.Closed.{Closed, Elements, prim, never, tuple, array, nonzero, wrap, named, ref, no_elements, element, closed, listed}
use Rattle.tm_ground.specs.Limits.{is_named, is_ref, OccursAs, PassesNodes}
use Rattle.tm_ground.specs.Occurs.{field_types}

-- a type with numbers stands for a closed type, where these are the rows that numbers name
module _ (rows : List NamedRow) (refs : List RefRow) where
  unfoldable mutual
    pub StandsFor : Closed → Ground → Type 0
    StandsFor (prim p) g = g ≡ Prim p
    StandsFor never g = g ≡ Never
    StandsFor (tuple no_elements) g = g ≡ the_unit
    StandsFor (tuple (element c cs)) g = (h : Ground) × (hs : List Ground) × (g ≡ Tuple (h ∷ hs)) × StandsFor c h × EachStandsFor cs hs
    StandsFor (array c n) g = (h : Ground) × (g ≡ Array h n) × StandsFor c h
    StandsFor (nonzero p) g = g ≡ NonZero p
    StandsFor (wrap w c) g = (h : Ground) × (g ≡ Wrap w h) × StandsFor c h
    StandsFor (named def regions args) g = (id : NamedId) × (g ≡ Named id) × (row : NamedRow) × (slice_get rows id.0 ≡ Some row) × (row.def ≡ def) × (row.regions ≡ regions) × EachStandsFor args row.args
    StandsFor (ref region mutable c) g = (r : RefId) × (g ≡ Ref r) × (row : RefRow) × (slice_get refs r.0 ≡ Some row) × (row.region ≡ region) × (row.mutable ≡ mutable) × StandsFor c row.pointee

    pub EachStandsFor : Elements → List Ground → Type 0
    EachStandsFor no_elements hs = hs ≡ []
    EachStandsFor (element c cs) [] = ⊥
    EachStandsFor (element c cs) (h ∷ hs) = StandsFor c h × EachStandsFor cs hs

-- a list has exactly the types that are so, each once
pub record ListsAll (P : Closed → Type 0) (listed : List Closed) : Type 0 where
  pub distinct : AreDistinct listed
  pub each : All P listed
  pub complete : (c : Closed) → P c → Contains listed c

-- texts in byte order, no two of which are one, so that their places are a function of what they are of
pub record AreInByteOrder (texts : List (List ℕ)) : Type 0 where
  pub sorted : IsSorted (slice_cmp nat_cmp) texts
  pub distinct : AreDistinct texts

module _ (resolved : Resolved) (world : World) where
  abbrev pub StandsIn : Closed → Ground → Type 0
  StandsIn = StandsFor world.named world.refs

  -- both sides stand for the question's, and as much is assumed
  pub record IsQuestionOf (asked : OpenAsk) (ask : Ask) : Type 0 where
    pub src : StandsIn (closed asked.src) ask.src
    pub dst : StandsIn (closed asked.dst) ask.dst
    pub assume : asked.assume ≡ ask.assume

  -- a named row is of a closed type: it has its arguments, and its fields' types
  pub record IsNamedRowOf (c : Closed) (row : NamedRow) : Type 0 where
    pub args : Elements
    pub type : c ≡ named row.def row.regions args
    pub given : AllZip StandsIn (listed args) row.args
    pub fields : AllZip (AllZip StandsIn) (field_types resolved row.def row.regions (listed args)) row.types

  -- a reference row is of a closed type
  pub record IsRefRowOf (c : Closed) (row : RefRow) : Type 0 where
    pub pointee : Closed
    pub type : c ≡ ref row.region row.mutable pointee
    pub points : StandsIn pointee row.pointee

  -- the canonical texts of the named types and of the references, in the order of their numbers
  abbrev pub named_texts : List (List ℕ)
  named_texts = map (λ k. text_of (tables_of world) (Named (record { 0 = k }))) (range_with_len 0 (length world.named))

  abbrev pub ref_texts : List (List ℕ)
  ref_texts = map (λ k. text_of (tables_of world) (Ref (record { 0 = k }))) (range_with_len 0 (length world.refs))

  pub record BelongsToFile : Type 0 where
    pub profile : world.profile ≡ resolved.profile
    pub defs : world.defs ≡ resolved.defs
    pub regions : world.regions ≡ resolved.regions
    pub bounds : world.bounds ≡ resolved.bounds
    pub questions : AllZip IsQuestionOf resolved.asks world.questions
    -- no type that occurs has too many nodes
    pub small : ¬ PassesNodes resolved
    -- the named rows are the named types that occur, each with its arguments and its fields' types, in byte
    -- order of their texts
    pub named_types : List Closed
    pub named : ListsAll (OccursAs is_named resolved) named_types
    pub named_rows : AllZip IsNamedRowOf named_types world.named
    pub named_in_order : AreInByteOrder named_texts
    -- the reference rows are the reference types that occur, in byte order of their texts
    pub ref_types : List Closed
    pub refs : ListsAll (OccursAs is_ref resolved) ref_types
    pub ref_rows : AllZip IsRefRowOf ref_types world.refs
    pub refs_in_order : AreInByteOrder ref_texts
