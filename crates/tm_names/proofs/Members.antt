-- The members of lists that are made of other lists.
use Rattle.std.proofs.Common.{◌≡◌, ℕ, zero, suc, ◌+◌, ◌<◌, refl, sym, ap, ◌∙◌, subst, arith, inl, inr, ◌⊎◌, ⊎_elim, List, [], ◌∷◌, ◌++◌, length, map, append_assoc, drop, get_or}
use Rattle.std.specs.Prelude.{Contains, slice_index_or, Option, Some, None, slice_get}
use Rattle.std.specs.List.{flat_map, filter_map, cons_option, enumerate_from}
use Rattle.std.proofs.lemmas.Option.{none-some, same_Some}

-- some item is this one
abbrev pub Member : {X : Type 0} → X → List X → Type 0
Member x [] = ⊥
Member x (y ∷ ys) = (y ≡ x) ⊎ Member x ys

pub contained : {X : Type 0} (x : X) (xs : List X) → Member x xs → Contains xs x
contained x [] h = absurd h
contained x (y ∷ ys) h = ⊎_elim (λ e. (0, omega arith, e)) (λ m. let found = contained x ys m in (suc found.0, omega (arith, found.1), found.2)) h

member_at : {X : Type 0} (x d : X) (xs : List X) (k : ℕ) → k < length xs → slice_index_or xs k d ≡ x → Member x xs
member_at x d [] k h e = absurd (omega arith)
member_at x d (y ∷ ys) zero h e = inl e
member_at x d (y ∷ ys) (suc k) h e = inr (member_at x d ys k (omega arith) e)

pub member : {X : Type 0} (x : X) (xs : List X) → Contains xs x → Member x xs
member x xs h = member_at x x xs h.0 h.1 h.2

pub front : {X : Type 0} (x : X) (xs ys : List X) → Member x xs → Member x (xs ++ ys)
front x [] ys h = absurd h
front x (z ∷ zs) ys h = ⊎_elim (λ e. inl e) (λ m. inr (front x zs ys m)) h

pub behind : {X : Type 0} (x : X) (xs ys : List X) → Member x ys → Member x (xs ++ ys)
behind x [] ys h = h
behind x (z ∷ zs) ys h = inr (behind x zs ys h)

pub either : {X : Type 0} (x : X) (xs ys : List X) → Member x (xs ++ ys) → Member x xs ⊎ Member x ys
either x [] ys h = inr h
either x (z ∷ zs) ys h = ⊎_elim (λ e. inl (inl e)) (λ m. ⊎_elim (λ p. inl (inr p)) (λ q. inr q) (either x zs ys m)) h

pub from_map : {X Y : Type 0} (f : X → Y) (y : Y) (xs : List X) → Member y (map f xs) → (x : X) × Member x xs × (f x ≡ y)
from_map f y [] h = absurd h
from_map f y (x ∷ xs) h = ⊎_elim (λ e. (x, inl refl, e)) (λ m. let found = from_map f y xs m in (found.0, inr found.1, found.2)) h

pub into_map : {X Y : Type 0} (f : X → Y) (x : X) (xs : List X) → Member x xs → Member (f x) (map f xs)
into_map f x [] h = absurd h
into_map f x (y ∷ ys) h = ⊎_elim (λ e. inl (ap f e)) (λ m. inr (into_map f x ys m)) h

pub from_flat_map : {X Y : Type 0} (f : X → List Y) (y : Y) (xs : List X) → Member y (flat_map f xs) → (x : X) × Member x xs × Member y (f x)
from_flat_map f y [] h = absurd h
from_flat_map f y (x ∷ xs) h =
    ⊎_elim (λ m. (x, inl refl, m)) (λ m. let found = from_flat_map f y xs m in (found.0, inr found.1, found.2)) (either y (f x) (flat_map f xs) h)

pub into_flat_map : {X Y : Type 0} (f : X → List Y) (y : Y) (x : X) (xs : List X) → Member x xs → Member y (f x) → Member y (flat_map f xs)
into_flat_map f y x [] h m = absurd h
into_flat_map f y x (z ∷ zs) h m =
    ⊎_elim (λ e. front y (f z) (flat_map f zs) (subst (λ w. Member y (f w)) (sym e) m)) (λ n. behind y (f z) (flat_map f zs) (into_flat_map f y x zs n m)) h

filtered : {X Y : Type 0} (h : X → Option Y) (y : Y) (x : X) (xs : List X) (o : Option Y) → h x ≡ o → Member y (cons_option o (filter_map h xs))
    → (Member y (filter_map h xs) → (z : X) × Member z xs × (h z ≡ Some y)) → (z : X) × Member z (x ∷ xs) × (h z ≡ Some y)
filtered h y x xs None e m rest = let found = rest m in (found.0, inr found.1, found.2)
filtered h y x xs (Some w) e m rest =
    ⊎_elim (λ p. (x, inl refl, e ∙ ap Some p)) (λ n. let found = rest n in (found.0, inr found.1, found.2)) m

pub from_filter_map : {X Y : Type 0} (h : X → Option Y) (y : Y) (xs : List X) → Member y (filter_map h xs) → (x : X) × Member x xs × (h x ≡ Some y)
from_filter_map h y [] m = absurd m
from_filter_map h y (x ∷ xs) m = filtered h y x xs (h x) refl m (from_filter_map h y xs)

put_in : {X Y : Type 0} (h : X → Option Y) (y : Y) (x z : X) (zs : List X) (o : Option Y) → h z ≡ o → h x ≡ Some y
    → Member x (z ∷ zs) → (Member x zs → Member y (filter_map h zs)) → Member y (cons_option o (filter_map h zs))
put_in h y x z zs None f e m rest = ⊎_elim (λ p. absurd (none-some y (sym f ∙ ap h p ∙ e))) rest m
put_in h y x z zs (Some w) f e m rest = ⊎_elim (λ p. inl (same_Some w y (sym f ∙ ap h p ∙ e))) (λ n. inr (rest n)) m

pub into_filter_map : {X Y : Type 0} (h : X → Option Y) (y : Y) (x : X) (xs : List X) → Member x xs → h x ≡ Some y → Member y (filter_map h xs)
into_filter_map h y x [] m e = absurd m
into_filter_map h y x (z ∷ zs) m e = put_in h y x z zs (h z) refl e m (λ n. into_filter_map h y x zs n e)

-- one turn of a loop that takes each item of a list to another one
first_left : {X Y : Type 0} (f : X → Y) (xs : List X) (i n : ℕ) (x : X) → i < length xs → n ≡ suc i → x ≡ get_or xs i x → f x ∷ map f (drop n xs) ≡ map f (drop i xs)
first_left f [] i n x h e at = absurd (omega arith)
first_left f (y ∷ ys) zero n x h e at = ap (λ k. f x ∷ map f (drop k (y ∷ ys))) e ∙ ap (λ z. f z ∷ map f ys) at
first_left f (y ∷ ys) (suc i) n x h e at = ap (λ k. f x ∷ map f (drop k (y ∷ ys))) e ∙ first_left f ys i (suc i) x (omega arith) refl at

-- one turn of a loop over a list: what is found so far, and what the rest gives, is the whole
pub next_found : {X Y : Type 0} (f : X → Y) (found next whole : List Y) (xs : List X) (i n : ℕ) (x : X)
    → i < length xs → n ≡ suc i → x ≡ get_or xs i x → next ≡ found ++ (f x ∷ []) → found ++ map f (drop i xs) ≡ whole
    → next ++ map f (drop n xs) ≡ whole
next_found f found next whole xs i n x h e at put rest =
    ap (λ those. those ++ map f (drop n xs)) put ∙ (append_assoc found (f x ∷ []) (map f (drop n xs)) ∙ (ap (λ left. found ++ left) (first_left f xs i n x h e at) ∙ rest))

-- the item at a place is one of the list
pub member_from_get : {X : Type 0} (x : X) (xs : List X) (k : ℕ) → slice_get xs k ≡ Some x → Member x xs
member_from_get x [] k e = absurd (none-some x e)
member_from_get x (y ∷ ys) zero e = inl (same_Some y x e)
member_from_get x (y ∷ ys) (suc k) e = inr (member_from_get x ys k e)

-- each item stands at a place, also with its number beside it
pub get_from_member : {X : Type 0} (x : X) (xs : List X) → Member x xs → (k : ℕ) × (slice_get xs k ≡ Some x)
get_from_member x [] m = absurd m
get_from_member x (y ∷ ys) m = ⊎_elim (λ e. (0, ap Some e)) (λ n. let found = get_from_member x ys n in (suc found.0, found.1)) m

pub numbered : {X : Type 0} (x : X) (xs : List X) (k from n : ℕ) → slice_get xs k ≡ Some x → n ≡ from + k → Member (n, x) (enumerate_from from xs)
numbered x [] k from n e s = absurd (none-some x e)
numbered x (y ∷ ys) zero from n e s = inl (ap (λ p. (from, p)) (same_Some y x e) ∙ ap (λ q. (q, x)) (let t : from ≡ n = omega (arith, s) in t))
numbered x (y ∷ ys) (suc k) from n e s = inr (numbered x ys k (from + 1) n e (omega (arith, s)))

pub from_numbered : {X : Type 0} (n : ℕ) (x : X) (xs : List X) (from : ℕ) → Member (n, x) (enumerate_from from xs)
    → (k : ℕ) × (slice_get xs k ≡ Some x) × (n ≡ from + k)
from_numbered n x [] from m = absurd m
from_numbered n x (y ∷ ys) from m =
    ⊎_elim (λ e. (0, ap (λ p. Some p.1) e, let t : from ≡ n = ap (λ p. p.0) e in omega (arith, t)))
    (λ r. let found = from_numbered n x ys (from + 1) r in (suc found.0, found.1, let t = found.2 in omega (arith, t))) m
