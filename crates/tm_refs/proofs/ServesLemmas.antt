-- Tables that serve for a type.
use Rattle.std.proofs.Common.{◌≡◌, ℕ, suc, zero, ◌↔◌, refl, subst, Bool, true, false, List, [], ◌∷◌, IsTrue, slice_index_or}
use Rattle.std.specs.Prelude.{is_none}
use Rattle.std.specs.List.{list_any}
use Rattle.std.proofs.Math.Bool.{beq}
use Rattle.std.proofs.lemmas.Bool.{or_right}
use Rattle.tm_base.specs.declared.assume.Assume.{Assume}
use Rattle.tm_base.specs.declared.ground.Ground.{Ground}
use Rattle.tm_base.specs.Compatible.{Compatible}
use Rattle.tm_base.specs.Tables.{Tables}
use Rattle.tm_refs.specs.declared.compat.Compat.{Compat}
use Rattle.tm_refs.specs.declared.standing.Standing.{Standing}
use Rattle.tm_refs.specs.Leaves.{leaf_of}
use Rattle.tm_refs.specs.Serves.{HoldsReference, ServesFor}
use Rattle.tm_refs.specs.Solved.{IsSolvedFor, compatible_in, depth_in}
use Rattle.tm_refs.specs.Standings.{depth_of, standing_in}
use Rattle.tm_refs.proofs.RoundLemmas.{solved-exact}

-- some leaf is marked in a row
pub marked : (row : List Bool) → IsTrue (list_any (λ b. beq b true) row) → (x : ℕ) × IsTrue (slice_index_or row x false)
marked [] some = cc
marked (true ∷ row) some = (zero, refl)
marked (false ∷ row) some = let (x, here) = marked row some in (suc x, here)

pub mark-found : (row : List Bool) (x : ℕ) → IsTrue (slice_index_or row x false) → IsTrue (list_any (λ b. beq b true) row)
mark-found [] x here = cc
mark-found (true ∷ row) zero here = refl
mark-found (false ∷ row) zero here = cc
mark-found (b ∷ row) (suc x) here = or_right (beq b true) (list_any (λ b. beq b true) row) (mark-found row x here)

-- what stands in no row goes with nothing
nothing : (r t : ℕ) → IsTrue (is_none (depth_of (standing_in [] r t))) → ⊥
nothing r t h = cc

module _ (tables : Tables) (assume : Assume) (g : Ground) (compat : Compat) where
  pub solved-serves : IsSolvedFor tables assume compat → ServesFor tables assume g compat
  solved-serves h = record { sound = λ r t c. (h.exact r t).0 c; depth = λ r t leaf. h.depth r t; why = λ r t leaf. h.why r t }

  -- a table without rows, where no leaf is asked for
  pub empty-serves : compat.table.rows.items ≡ [] → ¬ HoldsReference tables g → ServesFor tables assume g compat
  empty-serves empty none = record { sound = λ r t c. absurd (nothing r t (subst (λ (rows : List (List Standing)). IsTrue (is_none (depth_of (standing_in rows r t)))) empty c)); depth = λ r t leaf. absurd (none (t, leaf)); why = λ r t leaf. absurd (none (t, leaf)) }

  -- what may be taken as a leaf is known
  pub served-exact : ServesFor tables assume g compat → (r t : ℕ) → IsTrue (leaf_of tables g t) → IsTrue (compatible_in compat r t) ↔ Compatible tables assume r t
  served-exact h r t leaf = solved-exact tables assume r t (depth_in compat r t) (h.depth r t leaf)
