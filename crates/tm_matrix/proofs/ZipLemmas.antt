-- One item more of two lists that go together.
use Rattle.std.proofs.Common.{◌≡◌, ℕ, zero, suc, ◌+◌, ◌<◌, refl, ap, subst, List, [], ◌∷◌, ◌++◌, length, map, take, slice_index_or, arith, All}
use Rattle.std.specs.List.{AllZip}

module _ {X Y Z : Type 0} (R : Y → Z → Type 0) (f : X → Y) where
  next : (xs : List X) (zs : List Z) (i : ℕ) (d : X) (z : Z) → i < length xs → AllZip R (map f (take i xs)) zs → R (f (slice_index_or xs i d)) z → AllZip R (map f (take (suc i) xs)) (zs ++ z ∷ [])
  next [] zs i d z below pairs more = absurd (omega arith)
  next (x ∷ xs) [] zero d z below pairs more = (more, tt)
  next (x ∷ xs) (y ∷ zs) zero d z below pairs more = absurd pairs
  next (x ∷ xs) [] (suc i) d z below pairs more = absurd pairs
  next (x ∷ xs) (y ∷ zs) (suc i) d z below pairs more = (pairs.0, next xs zs i d z (omega arith) pairs.1 more)

  pub AllZip-more : (xs : List X) (zs : List Z) (i : ℕ) (d : X) (z : Z) → i < length xs → AllZip R (map f (take i xs)) zs → R (f (slice_index_or xs i d)) z → AllZip R (map f (take (i + 1) xs)) (zs ++ z ∷ [])
  AllZip-more xs zs i d z below pairs more =
      let e : suc i ≡ i + 1 = omega arith in
      subst (λ (k : ℕ). AllZip R (map f (take k xs)) (zs ++ z ∷ [])) e (next xs zs i d z below pairs more)

module _ {X : Type 0} (P : X → Type 0) where
  pub All-more : (xs : List X) (x : X) → All P xs → P x → All P (xs ++ x ∷ [])
  All-more [] x all more zero d below = more
  All-more [] x all more (suc k) d below = absurd (omega arith)
  All-more (y ∷ xs) x all more zero d below = all zero y (omega arith)
  All-more (y ∷ xs) x all more (suc k) d below = All-more xs x (λ j e h. all (suc j) e (omega arith)) more k d (omega arith)

pub map-more : {X Y : Type 0} (f : X → Y) (xs : List X) (x : X) → map f (xs ++ x ∷ []) ≡ map f xs ++ f x ∷ []
map-more f [] x = refl
map-more f (y ∷ xs) x = ap (λ ys. f y ∷ ys) (map-more f xs x)
