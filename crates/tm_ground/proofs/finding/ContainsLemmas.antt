-- What is in a list of types that is made of others, and how many distinct types a list can hold.
use Rattle.std.proofs.Common.{◌≡◌, ℕ, zero, suc, ◌<◌, Bool, true, false, cond, refl, sym, ap, subst, ◌∙◌, ◌⊎◌, inl, inr, ⊎_elim, List, [], ◌∷◌, length, get_or, Contains, filter, Some, slice_get, arith, true≢false}
use Rattle.std.specs.List.{flat_map}
use Rattle.std.proofs.lemmas.List.Elements.{Contains-append_left, Contains-append_right, Contains-append_cases}
use Rattle.std.proofs.lemmas.Option.{slice_get-get_or}
use Rattle.tm_ground.specs.Closed.{Closed}

pub contains-nothing : {X : Type 0} (x : X) → Contains [] x → ⊥
contains-nothing x h = omega (arith, h.1)

pub contains-cons : {X : Type 0} (y : X) (ys : List X) (x : X) → Contains (y ∷ ys) x → (y ≡ x) ⊎ Contains ys x
contains-cons y ys x (zero, l, e) = inl e
contains-cons y ys x (suc k, l, e) = inr (k, omega (arith, l), e)

-- the first item is among the items
pub contains-first : {X : Type 0} (x : X) (xs : List X) → Contains (x ∷ xs) x
contains-first x xs = (0, omega arith, refl)

-- what is among the others is among all
pub contains-behind : {X : Type 0} (y : X) (ys : List X) (x : X) → Contains ys x → Contains (y ∷ ys) x
contains-behind y ys x (k, l, e) = (suc k, omega (arith, l), e)

-- what a filter keeps is there and passes
pub contains-filter : (test : Closed → Bool) (xs : List Closed) (x : Closed) → Contains (filter test xs) x → Contains xs x × (test x ≡ true)
contains-filter test [] x h = absurd (contains-nothing x h)
contains-filter test (y ∷ ys) x h =
    let below = contains-filter test ys x in
    by (test y) refl (λ i. (contains-behind y ys x (below i).0, (below i).1)) h
  where
    by : (b : Bool) → test y ≡ b → (Contains (filter test ys) x → Contains (y ∷ ys) x × (test x ≡ true)) → Contains (cond b (y ∷ filter test ys) (filter test ys)) x → Contains (y ∷ ys) x × (test x ≡ true)
    by true e rest i = ⊎_elim (λ s. (subst (λ z. Contains (y ∷ ys) z) s (contains-first y ys), sym (ap test s) ∙ e)) rest (contains-cons y (filter test ys) x i)
    by false e rest i = rest i

-- what is there and passes is kept
pub filter-contains : (test : Closed → Bool) (xs : List Closed) (x : Closed) → Contains xs x → test x ≡ true → Contains (filter test xs) x
filter-contains test [] x h t = absurd (contains-nothing x h)
filter-contains test (y ∷ ys) x h t = by (test y) refl (filter-contains test ys x)
  where
    by : (b : Bool) → test y ≡ b → (Contains ys x → test x ≡ true → Contains (filter test ys) x) → Contains (cond b (y ∷ filter test ys) (filter test ys)) x
    by true e rest = ⊎_elim (λ s. subst (λ z. Contains (y ∷ filter test ys) z) s (contains-first y (filter test ys))) (λ i. contains-behind y (filter test ys) x (rest i t)) (contains-cons y ys x h)
    by false e rest = ⊎_elim (λ s. absurd (true≢false (sym t ∙ sym (ap test s) ∙ e))) (λ i. rest i t) (contains-cons y ys x h)

pub contains-flat_map : {X Y : Type 0} (f : Y → List X) (xs : List Y) (x : X) → Contains (flat_map f xs) x → (y : Y) × Contains xs y × Contains (f y) x
contains-flat_map f [] x h = absurd (contains-nothing x h)
contains-flat_map f (z ∷ zs) x h =
    let rest = contains-flat_map f zs x in
    ⊎_elim (λ i. (z, contains-first z zs, i)) (λ i. (let (y, j, k) = rest i in (y, contains-behind z zs y j, k))) (Contains-append_cases (f z) (flat_map f zs) x h)

pub flat_map-contains : {X Y : Type 0} (f : Y → List X) (xs : List Y) (y : Y) (x : X) → Contains xs y → Contains (f y) x → Contains (flat_map f xs) x
flat_map-contains f [] y x h i = absurd (contains-nothing y h)
flat_map-contains f (z ∷ zs) y x h i =
    let rest = flat_map-contains f zs y x in
    ⊎_elim (λ s. Contains-append_left (f z) (flat_map f zs) x (subst (λ w. Contains (f w) x) (sym s) i)) (λ j. Contains-append_right (f z) (flat_map f zs) x (rest j i)) (contains-cons z zs y h)

-- where a type stands
pub contains-at : (xs : List Closed) (x : Closed) → Contains xs x → (i : ℕ) × (i < length xs) × (slice_get xs i ≡ Some x)
contains-at xs x (i, l, e) = (i, l, slice_get-get_or xs i x l ∙ ap (λ (c : Closed). Some c) e)

pub get_or-from_get : {X : Type 0} (xs : List X) (i : ℕ) (x : X) → slice_get xs i ≡ Some x → (i < length xs) × (x ≡ get_or xs i x)
get_or-from_get [] i x h = cc
get_or-from_get (y ∷ ys) zero x h =
    let same : x ≡ y = cc in
    (omega arith, same)
get_or-from_get (y ∷ ys) (suc i) x h =
    let below = get_or-from_get ys i x h in
    (omega (arith, below.0), below.1)
