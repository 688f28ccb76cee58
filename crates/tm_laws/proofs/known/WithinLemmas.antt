-- The references of a type's words have numbers below a bound that the type gives.
use Rattle.std.proofs.Common.{ℕ, ◌<◌, ◌≤◌, max, inl, inr, Bool, List, [], ◌∷◌, arith}
use Rattle.std.specs.List.{All}
use Rattle.std.proofs.lemmas.List.Elements.{All-weaker}
use Rattle.tm_base.specs.Cells.{Word}
use Rattle.tm_base.specs.Expanded.{Expanded}
use Rattle.tm_base.specs.Valid.{Valid}
use Rattle.tm_laws.proofs.known.ListedLemmas.{IsIn, IsIn-from_Contains}
use Rattle.tm_laws.proofs.whole.Leaves.{Leaf, leaves}
use Rattle.tm_laws.proofs.whole.Words.{IsCellOf, IsHeldBy, cell-weaker, pointers-related}
use Rattle.tm_laws.proofs.known.WordSearchLemmas.{IsWithin}

-- the greatest of some references' bounds
abbrev pub greatest : (ℕ → ℕ) → List Leaf → ℕ
greatest bound [] = 0
greatest bound (u ∷ us) = max (bound u.number) (greatest bound us)

greatest-most : (bound : ℕ → ℕ) (us : List Leaf) (u : Leaf) → IsIn u us → bound u.number ≤ greatest bound us
greatest-most bound [] u h = absurd h
greatest-most bound (v ∷ us) u (inl e) = rw (← e) (omega arith)
greatest-most bound (v ∷ us) u (inr h) = omega (arith, greatest-most bound us u h)

-- the greatest of the bounds that the references of a type give
abbrev pub refs_below : (ℕ → ℕ) → Expanded → ℕ
refs_below bound t = greatest bound (leaves t)

module _ (A : ℕ → ℕ → Type 0) (keep : Bool) (bound : ℕ → ℕ) (bounded : (x u : ℕ) → A x u → x < bound u) (t : Expanded) where
  held-below : (x : ℕ) → IsHeldBy A t x → x < refs_below bound t
  held-below x (u, inside, a) = omega (arith, bounded x u.number a, greatest-most bound (leaves t) u (IsIn-from_Contains (leaves t) u inside))

  pub Valid-within : (w : Word) → Valid A keep t w → All (IsWithin (refs_below bound t)) w
  Valid-within w valid =
      All-weaker (IsCellOf (IsHeldBy A t)) (IsWithin (refs_below bound t)) (cell-weaker (IsHeldBy A t) (λ x. x < refs_below bound t) held-below) w
      (pointers-related A keep t w valid)
