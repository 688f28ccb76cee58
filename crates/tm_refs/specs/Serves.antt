-- Which tables of references are enough for the values of a type. The solved table is for each type, and the empty
-- one for those without references.
use Rattle.std.specs.Prelude.{ℕ, IsTrue}
use Rattle.tm_base.specs.declared.assume.Assume.{Assume}
use Rattle.tm_base.specs.declared.ground.Ground.{Ground}
use Rattle.tm_base.specs.Compatible.{Compatible}
use Rattle.tm_base.specs.Tables.{Tables}
use Rattle.tm_refs.specs.declared.compat.Compat.{Compat}
use Rattle.tm_refs.specs.Leaves.{leaf_of}
use Rattle.tm_refs.specs.Solved.{IsDepthAnswer, IsWhyAnswer, compatible_in, depth_in, why_in}

-- the type is a reference, or holds one by value
abbrev pub HoldsReference : Tables → Ground → Type 0
HoldsReference tables g = (x : ℕ) × IsTrue (leaf_of tables g x)

-- What the table takes for compatible is. Of each reference that the type is or holds by value it tells which may be
-- taken as it, at which depth the others fail, and which local rule they break.
pub record ServesFor (tables : Tables) (assume : Assume) (g : Ground) (compat : Compat) : Type 0 where
  pub sound : (r t : ℕ) → IsTrue (compatible_in compat r t) → Compatible tables assume r t
  pub depth : (r t : ℕ) → IsTrue (leaf_of tables g t) → IsDepthAnswer tables assume r t (depth_in compat r t)
  pub why : (r t : ℕ) → IsTrue (leaf_of tables g t) → IsWhyAnswer tables assume r t (why_in compat r t)
