-- All types that a type reaches, and how they are listed: after each stands what it enters, where that isn't
-- listed yet. Marks say which named types' fields and which references' pointees are listed.
use Rattle.std.specs.Prelude.{ℕ, Bool, true, List, [], ◌∷◌, map, if◌then◌else◌, slice_get, slice_index_or, slice_set, Contains}
use Rattle.std.specs.Borrow.{Bor}
use Rattle.tm_base.specs.declared.ground.Ground.{Ground}
use Rattle.tm_base.specs.declared.ground.Ground.TheOpen.{Ground-F}
use Rattle.tm_base.specs.Reaches.{Reaches, argument_of, row_parts, row_pointee}
use Rattle.tm_base.specs.Tables.{Tables}

-- each type of the list is reached, and each that is reached stands in it
pub record AreReached (tables : Tables) (g : Ground) (types : List Ground) : Type 0 where
  pub each : (h : Ground) → Contains types h → Reaches tables g h
  pub all : (h : Ground) → Reaches tables g h → Contains types h

-- the types behind references
abbrev pub types_at : List (Bor Ground) → List Ground
types_at types = map (λ g. g.now) types

-- the parts by value that are written in a type itself
abbrev pub parts_written : Ground-F Ground → List Ground
parts_written (Ground-F.Tuple gs) = gs
parts_written (Ground-F.Array g n) = g ∷ []
parts_written (Ground-F.Wrap w g) = argument_of w g
parts_written _ = []

-- a place is marked; what is past the marks needs none
abbrev pub is_marked : List Bool → ℕ → Bool
is_marked marks k = slice_index_or marks k true

-- types, where they aren't listed yet
abbrev pub unlisted : Bool → List Ground → List Ground
unlisted marked types = if marked then [] else types

module _ (tables : Tables) where
  -- what a type enters, without what is listed already
  abbrev pub newly_entered : List Bool → List Bool → Ground-F Ground → List Ground
  newly_entered named refs (Ground-F.Named id) = unlisted (is_marked named id.0) (row_parts (slice_get tables.named id.0))
  newly_entered named refs (Ground-F.Ref r) = unlisted (is_marked refs r.0) (row_pointee (slice_get tables.refs r.0))
  newly_entered named refs x = parts_written x

-- the marks of the named types after a type
abbrev pub named_after : List Bool → Ground-F Ground → List Bool
named_after marks (Ground-F.Named id) = slice_set marks id.0 true
named_after marks x = marks

-- the marks of the references after a type
abbrev pub refs_after : List Bool → Ground-F Ground → List Bool
refs_after marks (Ground-F.Ref r) = slice_set marks r.0 true
refs_after marks x = marks
