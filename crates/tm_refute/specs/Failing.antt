-- The pairs of a world's references that fail, in the order of entries. Working definitions.
use Rattle.std.specs.Prelude.{◌≡◌, ℕ, ◌<◌, ◌==◌, ◌&&◌, ◌||◌, nat_lt, Bool, IsTrue, Some, List, [], ◌∷◌, All, Contains, length}
use Rattle.tm_base.specs.Tables.{Tables}
use Rattle.tm_refs.specs.declared.compat.Compat.{Compat}
use Rattle.tm_refs.specs.Solved.{depth_in}
use Rattle.tm_refute.specs.declared.refuting.failing.Failing.{Failing}

-- falling by depth, then rising by source, then by target
abbrev pub fails_before : Failing → Failing → Bool
fails_before p q =
    nat_lt q.depth p.depth
    || ((p.depth == q.depth) && (nat_lt p.source.0 q.source.0 || ((p.source.0 == q.source.0) && nat_lt p.target.0 q.target.0)))

abbrev pub AreSorted : List Failing → Type 0
AreSorted [] = Unit {0}
AreSorted (p ∷ ps) = All (λ q. IsTrue (fails_before p q)) ps × AreSorted ps

-- each fails at its depth by the table, all of the world that do are there, and they are in order
pub record AreFailing (tables : Tables) (compat : Compat) (pairs : List Failing) : Type 0 where
  pub each : All (λ p. depth_in compat p.source.0 p.target.0 ≡ Some p.depth) pairs
  pub all : (r t depth : ℕ) → r < length tables.refs → t < length tables.refs → depth_in compat r t ≡ Some depth
      → Contains pairs (record { depth = depth; source = record { 0 = r }; target = record { 0 = t } })
  pub sorted : AreSorted pairs
