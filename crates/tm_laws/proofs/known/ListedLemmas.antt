-- Searches in a list: some item with a fact, or none; and the least one.
use Rattle.std.proofs.Common.{◌≡◌, zero, suc, ◌⊎◌, inl, inr, refl, sym, ap, subst, Bool, true, false, List, [], ◌∷◌, ◌++◌, map, arith}
use Rattle.std.specs.List.{Contains, flat_map}
use Rattle.std.proofs.lemmas.Bool.{false_from_ne_true}
use Rattle.tm_laws.proofs.known.DecideLemmas.{Dec-is}

-- an item of a list
abbrev pub IsIn : {X : Type 0} → X → List X → Type 0
IsIn x [] = ⊥
IsIn x (y ∷ ys) = (y ≡ x) ⊎ IsIn x ys

pub IsIn-from_Contains : {X : Type 0} (xs : List X) (x : X) → Contains xs x → IsIn x xs
IsIn-from_Contains [] x (k, below, e) = absurd (omega arith)
IsIn-from_Contains (y ∷ ys) x (zero, below, e) = inl e
IsIn-from_Contains (y ∷ ys) x (suc k, below, e) = inr (IsIn-from_Contains ys x (k, omega arith, e))

pub Contains-from_IsIn : {X : Type 0} (xs : List X) (x : X) → IsIn x xs → Contains xs x
Contains-from_IsIn [] x h = absurd h
Contains-from_IsIn (y ∷ ys) x (inl e) = (0, omega arith, e)
Contains-from_IsIn (y ∷ ys) x (inr h) =
    let (k, below, e) = Contains-from_IsIn ys x h in
    (suc k, omega arith, e)

pub IsIn-left : {X : Type 0} (xs ys : List X) (x : X) → IsIn x xs → IsIn x (xs ++ ys)
IsIn-left [] ys x h = absurd h
IsIn-left (y ∷ xs) ys x (inl e) = inl e
IsIn-left (y ∷ xs) ys x (inr h) = inr (IsIn-left xs ys x h)

pub IsIn-right : {X : Type 0} (xs ys : List X) (x : X) → IsIn x ys → IsIn x (xs ++ ys)
IsIn-right [] ys x h = h
IsIn-right (y ∷ xs) ys x h = inr (IsIn-right xs ys x h)

pub IsIn-append : {X : Type 0} (xs ys : List X) (x : X) → IsIn x (xs ++ ys) → IsIn x xs ⊎ IsIn x ys
IsIn-append [] ys x h = inr h
IsIn-append (y ∷ xs) ys x (inl e) = inl (inl e)
IsIn-append (y ∷ xs) ys x (inr h) = go (IsIn-append xs ys x h) where
  go : IsIn x xs ⊎ IsIn x ys → ((y ≡ x) ⊎ IsIn x xs) ⊎ IsIn x ys
  go (inl a) = inl (inr a)
  go (inr b) = inr b

pub IsIn-map : {X Y : Type 0} (f : X → Y) (xs : List X) (x : X) → IsIn x xs → IsIn (f x) (map f xs)
IsIn-map f [] x h = absurd h
IsIn-map f (y ∷ xs) x (inl e) = inl (ap f e)
IsIn-map f (y ∷ xs) x (inr h) = inr (IsIn-map f xs x h)

pub IsIn-flat_map : {X Y : Type 0} (f : X → List Y) (xs : List X) (x : X) (y : Y) → IsIn x xs → IsIn y (f x) → IsIn y (flat_map f xs)
IsIn-flat_map f [] x y h k = absurd h
IsIn-flat_map f (z ∷ xs) x y (inl e) k = IsIn-left (f z) (flat_map f xs) y (subst (λ u. IsIn y (f u)) (sym e) k)
IsIn-flat_map f (z ∷ xs) x y (inr h) k = IsIn-right (f z) (flat_map f xs) y (IsIn-flat_map f xs x y h k)

-- an item of lists joined stands in one of them
pub flat_map-IsIn : {X Y : Type 0} (f : X → List Y) (xs : List X) (y : Y) → IsIn y (flat_map f xs) → (x : X) × IsIn x xs × IsIn y (f x)
flat_map-IsIn f [] y h = absurd h
flat_map-IsIn {X} f (z ∷ xs) y h = go (flat_map-IsIn f xs y) (IsIn-append (f z) (flat_map f xs) y h) where
  go : (IsIn y (flat_map f xs) → (x : X) × IsIn x xs × IsIn y (f x)) → IsIn y (f z) ⊎ IsIn y (flat_map f xs) → (x : X) × ((z ≡ x) ⊎ IsIn x xs) × IsIn y (f x)
  go others (inl a) = (z, inl refl, a)
  go others (inr b) =
      let (x, at, in_it) = others b in
      (x, inr at, in_it)

module _ {X : Type 0} (P : X → Type 0) (known : (x : X) → Dec (P x)) where
  -- an item of the list that P holds of, or the knowledge that there is none
  abbrev pub Found : List X → Type 0
  Found xs = ((x : X) × IsIn x xs × P x) ⊎ ((x : X) → IsIn x xs → ¬ P x)

  pub find_in : (xs : List X) → Found xs
  find_in [] = inr (λ x h p. h)
  find_in (y ∷ xs) = go (known y) (find_in xs) where
    go : Dec (P y) → Found xs → Found (y ∷ xs)
    go (yes p) rest = inl (y, inl refl, p)
    go (no f) (inl (x, at, p)) = inl (x, inr at, p)
    go (no f) (inr none) = inr neither where
      neither : (x : X) → (y ≡ x) ⊎ IsIn x xs → ¬ P x
      neither x (inl e) p = f (subst P (sym e) p)
      neither x (inr at) p = none x at p

  module _ (less : X → X → Bool) (trans : (x y z : X) → less x y ≡ true → less y z ≡ true → less x z ≡ true) (irrefl : (x : X) → less x x ≡ false) where
    -- of the items that P holds of one such that none is less, or the knowledge that there is none
    abbrev pub LeastFound : List X → Type 0
    LeastFound xs = ((x : X) × IsIn x xs × P x × ((y : X) → IsIn y xs → P y → less y x ≡ false)) ⊎ ((x : X) → IsIn x xs → ¬ P x)

    pub least_in : (xs : List X) → LeastFound xs
    least_in [] = inr (λ x h p. h)
    least_in (y ∷ xs) = go (known y) (least_in xs) where
      with_rest : P y → (x : X) → IsIn x xs → P x → ((z : X) → IsIn z xs → P z → less z x ≡ false) → Dec (less y x ≡ true) → LeastFound (y ∷ xs)
      with_rest p x at q least (yes before) = inl (y, inl refl, p, none_less) where
        none_less : (z : X) → (y ≡ z) ⊎ IsIn z xs → P z → less z y ≡ false
        none_less z (inl e) r = subst (λ u. less u y ≡ false) e (irrefl y)
        none_less z (inr in_rest) r = false_from_ne_true (less z y) (λ h. absurd (cc (trans z y x h before, least z in_rest r)))
      with_rest p x at q least (no after) = inl (x, inr at, q, none_less) where
        none_less : (z : X) → (y ≡ z) ⊎ IsIn z xs → P z → less z x ≡ false
        none_less z (inl e) r = subst (λ u. less u x ≡ false) e (false_from_ne_true (less y x) after)
        none_less z (inr in_rest) r = least z in_rest r

      go : Dec (P y) → LeastFound xs → LeastFound (y ∷ xs)
      go (yes p) (inl (x, at, q, least)) = with_rest p x at q least (Dec-is (less y x) true)
      go (yes p) (inr none) = inl (y, inl refl, p, none_less) where
        none_less : (z : X) → (y ≡ z) ⊎ IsIn z xs → P z → less z y ≡ false
        none_less z (inl e) r = subst (λ u. less u y ≡ false) e (irrefl y)
        none_less z (inr in_rest) r = absurd (none z in_rest r)
      go (no f) (inl (x, at, q, least)) = inl (x, inr at, q, none_less) where
        none_less : (z : X) → (y ≡ z) ⊎ IsIn z xs → P z → less z x ≡ false
        none_less z (inl e) r = absurd (f (subst P (sym e) r))
        none_less z (inr in_rest) r = least z in_rest r
      go (no f) (inr none) = inr neither where
        neither : (x : X) → (y ≡ x) ⊎ IsIn x xs → ¬ P x
        neither x (inl e) p = f (subst P (sym e) p)
        neither x (inr at) p = none x at p

-- a list that has each item of which a fact holds
pub record Listed {X : Type 0} (P : X → Type 0) : Type 0 where
  pub items : List X
  pub has : (x : X) → P x → IsIn x items

-- a fact that holds of listed items alone is known to hold of some or of none
pub find : {X : Type 0} (P : X → Type 0) → Listed P → ((x : X) → Dec (P x)) → Dec ((x : X) × P x)
find {X} P listed known = go (find_in P known listed.items) where
  go : Found P known listed.items → Dec ((x : X) × P x)
  go (inl (x, at, p)) = yes (x, p)
  go (inr none) = no (λ (x, p). none x (listed.has x p) p)

pub Listed-under : {X : Type 0} (P Q : X → Type 0) → ((x : X) → P x → Q x) → Listed Q → Listed P
Listed-under P Q under listed = record { items = listed.items; has = λ x p. listed.has x (under x p) }
