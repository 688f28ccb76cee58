-- Which types a type leads to, and when it can be judged. This project's.
use Rattle.std.specs.Prelude.{◌≡◌, ℕ, zero, suc, Option, Some, None, List, [], ◌∷◌, ◌++◌, Contains, flat_map, slice_get}
use Rattle.tm_base.specs.declared.answer.Why.{Why}
use Rattle.tm_base.specs.declared.definition.NamedRow.{NamedRow}
use Rattle.tm_base.specs.declared.definition.RefRow.{RefRow}
use Rattle.tm_base.specs.declared.ground.Ground.{Ground, out-Ground}
use Rattle.tm_base.specs.declared.ground.Ground.TheOpen.{Ground-F}
use Rattle.tm_base.specs.declared.ground.Wrapper.{Wrapper}
use Rattle.tm_base.specs.declared.ground.Wrapper.TheVariants.{PhantomData}
use Rattle.tm_base.specs.Faults.{fault_of}
use Rattle.tm_base.specs.Tables.{Tables, expanded_in}

-- a way of so many steps, and of any number
module _ {X : Type 0} (Step : X → X → Type 0) where
  unfoldable pub ChainIn : ℕ → X → X → Type 0
  ChainIn zero a b = a ≡ b
  ChainIn (suc n) a b = (next : X) × Step a next × ChainIn n next b

  abbrev pub Chain : X → X → Type 0
  Chain a b = (n : ℕ) × ChainIn n a b

-- the part that a wrapper holds: none under `PhantomData`
abbrev pub argument_of : Wrapper → Ground → List Ground
argument_of PhantomData g = []
argument_of _ g = g ∷ []

-- the fields of all variants of a named type
abbrev pub row_parts : Option NamedRow → List Ground
row_parts None = []
row_parts (Some row) = flat_map (λ types. types) row.types

-- what a reference points to
abbrev pub row_pointee : Option RefRow → List Ground
row_pointee None = []
row_pointee (Some row) = row.pointee ∷ []

-- the parts of a type by value
abbrev pub parts_within : List NamedRow → Ground-F Ground → List Ground
parts_within named (Ground-F.Tuple gs) = gs
parts_within named (Ground-F.Array g n) = g ∷ []
parts_within named (Ground-F.Named id) = row_parts (slice_get named id.0)
parts_within named (Ground-F.Wrap w g) = argument_of w g
parts_within named _ = []

-- the pointee of a reference
abbrev pub pointees_within : List RefRow → Ground-F Ground → List Ground
pointees_within refs (Ground-F.Ref r) = row_pointee (slice_get refs r.0)
pointees_within refs _ = []

-- the parts of a type by value, over these tables
abbrev pub parts_of : Tables → Ground → List Ground
parts_of tables g = parts_within tables.named (out-Ground g)

-- the pointee of a reference, over these tables
abbrev pub pointees_of : Tables → Ground → List Ground
pointees_of tables g = pointees_within tables.refs (out-Ground g)

-- one step: to a part by value, or to what a reference points to
abbrev pub Enters : Tables → Ground → Ground → Type 0
Enters tables g h = Contains (parts_of tables g ++ pointees_of tables g) h

-- A type reaches itself, its parts by value, the pointees of its references, and what these reach.
abbrev pub Reaches : Tables → Ground → Ground → Type 0
Reaches tables = Chain (Enters tables)

-- a type is at fault, for its first cause
abbrev pub IsAtFault : Tables → Ground → Why → Type 0
IsAtFault tables g why = fault_of (expanded_in tables g) ≡ Some why

-- no type that it reaches is at fault
abbrev pub IsJudged : Tables → Ground → Type 0
IsJudged tables g = (h : Ground) → Reaches tables g h → fault_of (expanded_in tables h) ≡ None
