-- Sums over what passes a test, and how many pairs depend on some of others.
use Rattle.std.proofs.Common.{◌≡◌, ℕ, zero, suc, ◌+◌, ◌<◌, ◌≤◌, refl, sym, ◌∙◌, ap, subst, Bool, true, false, ◌||◌, cond, List, [], ◌∷◌, length, slice_index_or, arith}
use Rattle.std.specs.List.{Contains, count_by, filter, list_any, sum_by}
use Rattle.std.proofs.lemmas.List.Sums.{sum_by-cons, length-filter}

module _ {X : Type 0} (w : X → ℕ) where
  -- an item is taken, or isn't
  abbrev taken : Bool → X → List X → List X
  taken b x xs = cond b (x ∷ xs) xs

  taken-le : (b c : Bool) (x : X) (xs ys : List X) → (b ≡ true → c ≡ true) → sum_by w xs ≤ sum_by w ys → sum_by w (taken b x xs) ≤ sum_by w (taken c x ys)
  taken-le true true x xs ys rises h = omega (arith, sum_by-cons w x xs, sum_by-cons w x ys)
  taken-le true false x xs ys rises h = absurd (cc (rises refl))
  taken-le false true x xs ys rises h = omega (arith, sum_by-cons w x ys)
  taken-le false false x xs ys rises h = h

  taken-more : (b c : Bool) (x : X) (xs ys : List X) (n : ℕ) → (b ≡ true → c ≡ true) → sum_by w xs + n ≤ sum_by w ys → sum_by w (taken b x xs) + n ≤ sum_by w (taken c x ys)
  taken-more true true x xs ys n rises h = omega (arith, sum_by-cons w x xs, sum_by-cons w x ys)
  taken-more true false x xs ys n rises h = absurd (cc (rises refl))
  taken-more false true x xs ys n rises h = omega (arith, sum_by-cons w x ys)
  taken-more false false x xs ys n rises h = h

  taken-new : (b c : Bool) (x : X) (xs ys : List X) → b ≡ false → c ≡ true → sum_by w xs ≤ sum_by w ys → sum_by w (taken b x xs) + w x ≤ sum_by w (taken c x ys)
  taken-new false true x xs ys e f h = omega (arith, sum_by-cons w x ys)
  taken-new false false x xs ys e f h = cc
  taken-new true c x xs ys e f h = cc

  module _ (p q : X → Bool) (rises : (x : X) → p x ≡ true → q x ≡ true) where
    -- what passes more takes more
    pub sum-rises : (xs : List X) → sum_by w (filter p xs) ≤ sum_by w (filter q xs)
    sum-rises [] = omega arith
    sum-rises (x ∷ xs) = taken-le (p x) (q x) x (filter p xs) (filter q xs) (rises x) (sum-rises xs)

    gains-at : (xs : List X) (x : X) (k : ℕ) → k < length xs → slice_index_or xs k x ≡ x → p x ≡ false → q x ≡ true → sum_by w (filter p xs) + w x ≤ sum_by w (filter q xs)
    gains-at [] x k below e fails passes = absurd (omega arith)
    gains-at (y ∷ xs) x zero below e fails passes =
        subst (λ z. sum_by w (filter p (y ∷ xs)) + w z ≤ sum_by w (filter q (y ∷ xs))) e
        (taken-new (p y) (q y) y (filter p xs) (filter q xs) (ap p e ∙ fails) (ap q e ∙ passes) (sum-rises xs))
    gains-at (y ∷ xs) x (suc k) below e fails passes =
        taken-more (p y) (q y) y (filter p xs) (filter q xs) (w x) (rises y) (gains-at xs x k (omega arith) e fails passes)

    -- and where an item of the list passes anew, it takes that one more
    pub sum-gains : (xs : List X) (x : X) → Contains xs x → p x ≡ false → q x ≡ true → sum_by w (filter p xs) + w x ≤ sum_by w (filter q xs)
    sum-gains xs x (k, below, e) fails passes = gains-at xs x k below e fails passes

-- what passes one of two tests is no more than what passes the one and what passes the other
one-of-two : (a b : Bool) → cond (a || b) 1 0 ≤ cond a 1 0 + cond b 1 0
one-of-two true true = omega arith
one-of-two true false = omega arith
one-of-two false true = omega arith
one-of-two false false = omega arith

count-or : {X : Type 0} (p q : X → Bool) (xs : List X) → count_by (λ x. p x || q x) xs ≤ count_by p xs + count_by q xs
count-or p q [] = omega arith
count-or p q (x ∷ xs) =
    omega (arith, sum_by-cons (λ y. cond (p y || q y) 1 0) x xs, sum_by-cons (λ y. cond (p y) 1 0) x xs, sum_by-cons (λ y. cond (q y) 1 0) x xs, one-of-two (p x) (q x), count-or p q xs)

count-none : {X : Type 0} (xs : List X) → sum_by (λ (x : X). 0) xs ≡ 0
count-none [] = refl
count-none {X} (x ∷ xs) = omega (arith, sum_by-cons (λ (y : X). 0) x xs, count-none xs)

-- those that stand in a relation to some of others are no more than those in the relation to each
module _ {X Y : Type 0} (r : X → Y → Bool) (xs : List X) where
  counted : (ys : List Y) → count_by (λ x. list_any (r x) ys) xs ≤ sum_by (λ y. count_by (λ x. r x y) xs) ys
  counted [] = omega (arith, count-none xs)
  counted (y ∷ ys) = omega (arith, count-or (λ x. r x y) (λ x. list_any (r x) ys) xs, counted ys, sum_by-cons (λ z. count_by (λ x. r x z) xs) y ys)

  pub related-le : (ys : List Y) → length (filter (λ x. list_any (r x) ys) xs) ≤ sum_by (λ y. count_by (λ x. r x y) xs) ys
  related-le ys = subst (λ (n : ℕ). n ≤ sum_by (λ y. count_by (λ x. r x y) xs) ys) (sym (length-filter (λ x. list_any (r x) ys) xs)) (counted ys)
