-- Where the edges of each state begin, among edges in the order of the states that they leave.
use Rattle.std.specs.Prelude.{ℕ, ◌<◌, ◌≤◌, List, length}
use Rattle.std.specs.List.{slice_index_or, AllWithin}
use Rattle.tm_auto.specs.declared.edge.Edge.{Edge}

-- the place of the first edge that leaves the state or a later one; where none does, the number of edges
pub record IsFirst (es : List Edge) (s place : ℕ) : Type 0 where
  pub within : place ≤ length es
  pub before : AllWithin (λ (e : Edge). e.from < s) es 0 place
  pub behind : AllWithin (λ (e : Edge). s ≤ e.from) es place (length es)

-- such a place for each state up to the last that an edge leaves
pub record AreFirsts (es : List Edge) (firsts : List ℕ) : Type 0 where
  pub each : (s : ℕ) → s < length firsts → IsFirst es s (slice_index_or firsts s 0)
  pub past : (s : ℕ) → length firsts ≤ s → IsFirst es s (length es)
