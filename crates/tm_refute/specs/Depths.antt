-- The least depths at which entries name pairs of references.
use Rattle.std.specs.Prelude.{◌≡◌, ℕ, ◌≤◌, ◌==◌, nat_le, min, Bool, true, false, ◌&&◌, if◌then◌else◌, Option, None, Some, List, All, Contains}
use Rattle.std.specs.HashMap.{get_by}
use Rattle.tm_refute.specs.declared.depths.Depths.{Depths}
use Rattle.tm_refute.specs.declared.refutation.Entry.{Entry}
use Rattle.tm_refute.specs.Refutes.{IsOf}

-- the depth that stands for two references
abbrev pub depth_in : Depths → ℕ → ℕ → Option ℕ
depth_in depths r t = get_by (λ pair. (r == pair.0) && (t == pair.1)) depths.least

-- the lesser of a depth and of another that may be there
abbrev pub lesser : Option ℕ → ℕ → ℕ
lesser None depth = depth
lesser (Some least) depth = min least depth

-- the depth for two references, once an entry is taken in
abbrev pub depth_after : Option ℕ → ℕ → ℕ → Entry → Option ℕ
depth_after least r t entry = if (entry.source.0 == r) && (entry.target.0 == t) then Some (lesser least entry.depth) else least

-- no depth of a pair is below the limit
abbrev pub stands : Option ℕ → Option ℕ → Bool
stands limit None = true
stands None (Some least) = false
stands (Some limit) (Some least) = nat_le limit least

-- the least depth of the entries of two references; none where there is no such entry
abbrev pub IsLeastDepth : List Entry → ℕ → ℕ → Option ℕ → Type 0
IsLeastDepth entries r t None = All (λ entry. ¬ IsOf r t entry) entries
IsLeastDepth entries r t (Some least) =
    ((entry : Entry) × Contains entries entry × IsOf r t entry × (entry.depth ≡ least)) × All (λ entry. IsOf r t entry → least ≤ entry.depth) entries

-- the least depth of each pair
pub record AreDepthsOf (entries : List Entry) (depths : Depths) : Type 0 where
  pub each : (r t : ℕ) → IsLeastDepth entries r t (depth_in depths r t)
