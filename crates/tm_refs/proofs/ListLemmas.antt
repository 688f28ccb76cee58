-- Lists by what passes a test, and lists without items.
use Rattle.std.proofs.Common.{◌≡◌, ℕ, zero, suc, ◌<◌, refl, sym, ◌∙◌, ap, subst, Bool, true, false, cond, List, [], ◌∷◌, length, slice_index_or, arith}
use Rattle.std.specs.List.{Contains, filter, list_any, sum_by}
use Rattle.std.proofs.lemmas.Bool.{or_left, or_right}
use Rattle.std.proofs.lemmas.List.Sums.{sum_by-cons}

pub any-at : {X : Type 0} (test : X → Bool) (xs : List X) (x : X) (k : ℕ) → k < length xs → slice_index_or xs k x ≡ x → test x ≡ true → list_any test xs ≡ true
any-at test [] x k below e passes = absurd (omega arith)
any-at test (y ∷ xs) x zero below e passes = or_left (test y) (list_any test xs) (ap test e ∙ passes)
any-at test (y ∷ xs) x (suc k) below e passes = or_right (test y) (list_any test xs) (any-at test xs x k (omega arith) e passes)

cons-keeps : {X : Type 0} (b : Bool) (y : X) (xs : List X) (x : X) → Contains xs x → Contains (cond b (y ∷ xs) xs) x
cons-keeps true y xs x (k, below, e) = (suc k, omega arith, e)
cons-keeps false y xs x at = at

pub filter-at : {X : Type 0} (test : X → Bool) (xs : List X) (x : X) (k : ℕ) → k < length xs → slice_index_or xs k x ≡ x → test x ≡ true → Contains (filter test xs) x
filter-at test [] x k below e passes = absurd (omega arith)
filter-at test (y ∷ xs) x zero below e passes =
    subst (λ (b : Bool). Contains (cond b (y ∷ filter test xs) (filter test xs)) x) (sym (ap test e ∙ passes)) (zero, omega arith, e)
filter-at test (y ∷ xs) x (suc k) below e passes = cons-keeps (test y) y (filter test xs) x (filter-at test xs x k (omega arith) e passes)

-- a list weighs as many ones as it has items
pub ones : {X : Type 0} (xs : List X) → sum_by (λ (x : X). 1) xs ≡ length xs
ones [] = refl
ones {X} (x ∷ xs) = omega (arith, sum_by-cons (λ (y : X). 1) x xs, ones xs)

pub empty : {X : Type 0} (xs : List X) → length xs ≡ 0 → xs ≡ []
empty [] e = refl
empty (x ∷ xs) e = absurd (omega arith)

pub filled : {X : Type 0} (xs : List X) (n : ℕ) → n ≡ length xs → (n ≡ 0 → ⊥) → 0 < length xs
filled xs n e some = omega arith
