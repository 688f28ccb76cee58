-- Types in the order of lists of numbers that tell them apart have one order alone.
use Rattle.std.proofs.Common.{◌≡◌, ℕ, suc, ◌+◌, ◌⊎◌, inl, inr, refl, sym, ap, subst, ◌∙◌, true, false, List, [], ◌∷◌, map, get_or, Contains, arith}
use Rattle.std.specs.Cmp.Lexicographic.{slice_cmp}
use Rattle.std.specs.List.Sorted.{IsSorted}
use Rattle.std.specs.Ordering.{is_lt, nat_cmp, ordering_reverse}
use Rattle.std.specs.declared.cmp.Ordering.{Ordering}
use Rattle.std.specs.declared.cmp.Ordering.TheVariants.{Less, Equal, Greater}
use Rattle.std.proofs.lemmas.Cmp.{nat_list_cmp_total}
use Rattle.std.proofs.lemmas.Map.Lookups.{exact_bytes}
use Rattle.tm_base.specs.Whole.{AreDistinct}
use Rattle.tm_ground.specs.Closed.{Closed}
use Rattle.tm_ground.proofs.finding.ContainsLemmas.{contains-behind, contains-cons, contains-first, contains-nothing}
use Rattle.tm_ground.proofs.finding.PigeonLemmas.{distinct-head, distinct-tail}

-- the order of lists of numbers
abbrev cmp : List ℕ → List ℕ → Ordering
cmp = slice_cmp nat_cmp

turned : (a b : List ℕ) → cmp a b ≡ Greater → cmp b a ≡ Less
turned a b e = nat_list_cmp_total.antisymm b a ∙ ap ordering_reverse e

-- neither is before the other: they are one
one-list : (a b : List ℕ) → is_lt (cmp a b) ≡ false → is_lt (cmp b a) ≡ false → a ≡ b
one-list a b h k = by (cmp a b) refl
  where
    by : (r : Ordering) → cmp a b ≡ r → a ≡ b
    by Less e = let f : is_lt (cmp a b) ≡ true = ap is_lt e in cc
    by Equal e = exact_bytes a b e
    by Greater e = let f : is_lt (cmp b a) ≡ true = ap is_lt (turned a b e) in cc

-- what isn't before one that isn't before a third isn't before that
not-before : (a b c : List ℕ) → is_lt (cmp a b) ≡ false → is_lt (cmp b c) ≡ false → is_lt (cmp a c) ≡ false
not-before a b c h k = by (cmp a c) refl (cmp b c) refl
  where
    by : (r : Ordering) → cmp a c ≡ r → (s : Ordering) → cmp b c ≡ s → is_lt (cmp a c) ≡ false
    by Equal e s f = ap is_lt e
    by Greater e s f = ap is_lt e
    by Less e Less f = let l : is_lt (cmp b c) ≡ true = ap is_lt f in cc
    by Less e Equal f = let same = exact_bytes b c f in let l : is_lt (cmp a b) ≡ true = ap (λ x. is_lt (cmp a x)) same ∙ ap is_lt e in cc
    by Less e Greater f = let l : is_lt (cmp a b) ≡ true = ap is_lt (nat_list_cmp_total.trans a c b e (turned b c f)) in cc

module _ (f : Closed → List ℕ) where
  -- they stand in the order of their lists
  abbrev pub Rise : List Closed → Type 0
  Rise xs = IsSorted (slice_cmp nat_cmp) (map f xs)

  rise-tail : (x : Closed) (xs : List Closed) → Rise (x ∷ xs) → Rise xs
  rise-tail x xs h = λ k d a b.
      let e : suc k + 1 ≡ suc (k + 1) = omega arith in
      subst (λ (n : ℕ). is_lt (cmp (get_or (map f (x ∷ xs)) n d) (get_or (map f (x ∷ xs)) (suc k) d)) ≡ false) e (h (suc k) d (omega arith) (omega (arith, b)))

  -- none is before the first
  lowest : (x : Closed) (xs : List Closed) → Rise (x ∷ xs) → (z : Closed) → Contains xs z → is_lt (cmp (f z) (f x)) ≡ false
  lowest x [] h z i = absurd (contains-nothing z i)
  lowest x (y ∷ ys) h z i = by (λ j. lowest y ys (rise-tail x (y ∷ ys) h) z j) (contains-cons y ys z i)
    where
      next : is_lt (cmp (f y) (f x)) ≡ false
      next = h 0 (f y) (omega arith) (omega arith)

      by : (Contains ys z → is_lt (cmp (f z) (f y)) ≡ false) → (y ≡ z) ⊎ Contains ys z → is_lt (cmp (f z) (f x)) ≡ false
      by others (inl e) = subst (λ (w : Closed). is_lt (cmp (f w) (f x)) ≡ false) e next
      by others (inr j) = not-before (f z) (f y) (f x) (others j) next

  module _ (P : Closed → Type 0) (apart : (x y : Closed) → P x → P y → f x ≡ f y → x ≡ y) where
    -- such a list of types that are so, each once
    pub record IsRising (xs : List Closed) : Type 0 where
      pub rise : Rise xs
      pub distinct : AreDistinct xs
      pub each : (x : Closed) → Contains xs x → P x

    rising-tail : (x : Closed) (xs : List Closed) → IsRising (x ∷ xs) → IsRising xs
    rising-tail x xs h = record {
      rise = rise-tail x xs h.rise;
      distinct = distinct-tail x xs h.distinct;
      each = λ z i. h.each z (contains-behind x xs z i);
    }

    heads-same : (x y : Closed) (xs ys : List Closed) → IsRising (x ∷ xs) → IsRising (y ∷ ys) → Contains (y ∷ ys) x → Contains (x ∷ xs) y → x ≡ y
    heads-same x y xs ys h k i j = by (contains-cons y ys x i) (contains-cons x xs y j)
      where
        by : (y ≡ x) ⊎ Contains ys x → (x ≡ y) ⊎ Contains xs y → x ≡ y
        by (inl e) other = sym e
        by (inr a) (inl e) = e
        by (inr a) (inr b) =
            apart x y (h.each x (contains-first x xs)) (k.each y (contains-first y ys))
            (one-list (f x) (f y) (lowest y ys k.rise x a) (lowest x xs h.rise y b))

    -- behind equal heads there are the same types too
    still-there : (x y : Closed) (xs ys : List Closed) → x ≡ y → AreDistinct (x ∷ xs) → ((z : Closed) → Contains (x ∷ xs) z → Contains (y ∷ ys) z) → (z : Closed) → Contains xs z → Contains ys z
    still-there x y xs ys e distinct there z i = by (contains-cons y ys z (there z (contains-behind x xs z i)))
      where
        by : (y ≡ z) ⊎ Contains ys z → Contains ys z
        by (inl f) = absurd (distinct-head x xs distinct z i (sym f ∙ sym e))
        by (inr j) = j

    -- two that have the same types are one
    pub rising-once : (xs ys : List Closed) → IsRising xs → IsRising ys → ((z : Closed) → Contains xs z → Contains ys z) → ((z : Closed) → Contains ys z → Contains xs z) → xs ≡ ys
    rising-once [] [] h k there back = refl
    rising-once [] (y ∷ ys) h k there back = absurd (contains-nothing y (back y (contains-first y ys)))
    rising-once (x ∷ xs) [] h k there back = absurd (contains-nothing x (there x (contains-first x xs)))
    rising-once (x ∷ xs) (y ∷ ys) h k there back =
        let same : x ≡ y = heads-same x y xs ys h k (there x (contains-first x xs)) (back y (contains-first y ys)) in
        let others : xs ≡ ys = rising-once xs ys (rising-tail x xs h) (rising-tail y ys k)
        (still-there x y xs ys same h.distinct there) (still-there y x ys xs (sym same) k.distinct back) in
        ap (λ z. z ∷ xs) same ∙ ap (λ zs. y ∷ zs) others
