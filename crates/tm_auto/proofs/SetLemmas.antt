-- What a set of states has once a state is put in, and that a set is told by its states.
use Rattle.std.proofs.Common.{◌≡◌, ◌≢◌, ℕ, zero, suc, ◌<◌, ◌≤◌, ◌⊎◌, inl, inr, Bool, true, false, nat_lt, List, [], ◌∷◌, length, refl, sym, ap, ◌∙◌, subst, arith, eq-eqb, add-one, get_or, Contains}
use Rattle.std.specs.Prelude.{◌==◌}
use Rattle.std.specs.List.{insert, slice_index_or, AllWithin}
use Rattle.std.specs.List.Sorted.{IsStrictlyIncreasing, IsPartitionedBy}
use Rattle.std.proofs.lemmas.Bool.{cases_lt, ne_eqb, or_left, or_right}
use Rattle.std.proofs.lemmas.List.Elements.{Contains-get_or}
use Rattle.tm_base.proofs.JudgedLemmas.{Contains-none, Contains-one}
use Rattle.tm_auto.specs.Sets.{has_state, with_state}
use Rattle.tm_auto.proofs.ContainsLemmas.{here, there, first_or_later, each_of}

pub bool_cases : (b : Bool) → (b ≡ true) ⊎ (b ≡ false)
bool_cases true = inl refl
bool_cases false = inr refl

pub same_at : (x y : ℕ) → (x == y) ≡ true → x ≡ y
same_at x y e = elim (cases_lt x y) [
  | inl l ↦ (let z = ne_eqb x y (λ q. omega arith) in cc)
  | inr l ↦ elim (cases_lt y x) [ inl k ↦ (let z = ne_eqb x y (λ q. omega arith) in cc) | inr k ↦ omega arith ]
]

lt_test : (a b : ℕ) → nat_lt a b ≡ true → a < b
lt_test a b e = grind arith

not_lt : (a b : ℕ) → nat_lt a b ≡ false → b ≤ a
not_lt a b e = grind arith

lt_holds : (a b : ℕ) → a < b → nat_lt a b ≡ true
lt_holds a b h = grind arith

lt_fails : (a b : ℕ) → b ≤ a → nat_lt a b ≡ false
lt_fails a b h = grind arith

-- ---- what is in it

with_state_cases : (s x : ℕ) (xs : List ℕ) (P : List ℕ → Type 0) → (s < x → P (s ∷ x ∷ xs)) → (s ≡ x → P (x ∷ xs)) → (x < s → P (x ∷ with_state s xs)) → P (with_state s (x ∷ xs))
with_state_cases s x xs P less same more = elim (bool_cases (nat_lt s x)) [
  | inl a ↦ rw a (less (lt_test s x a))
  | inr a ↦ elim (bool_cases (x == s)) [
    | inl b ↦ rw (a, b) (same (sym (same_at x s b)))
    | inr b ↦ rw (a, b) (more (let ge = not_lt s x a in elim (cases_lt x s) [ inl l ↦ l | inr l ↦ (let e = eq-eqb x s (omega arith) in cc) ]))
  ]
]

pub with_state_to : (s : ℕ) (xs : List ℕ) (t : ℕ) → Contains (with_state s xs) t → (t ≡ s) ⊎ Contains xs t
with_state_to s [] t h = inl (sym (Contains-one s t h))
with_state_to s (x ∷ xs) t h = with_state_cases s x xs (λ ys. Contains ys t → (t ≡ s) ⊎ Contains (x ∷ xs) t) (λ l. first_or_later s (x ∷ xs)) (λ e h. inr h) (λ l. back (with_state s xs) t (with_state_to s xs t)) h
  where
    back : (zs : List ℕ) (t : ℕ) → (Contains zs t → (t ≡ s) ⊎ Contains xs t) → Contains (x ∷ zs) t → (t ≡ s) ⊎ Contains (x ∷ xs) t
    back zs t f m = elim (first_or_later _ _ m) [ inl e ↦ inr (rw e (here _)) | inr k ↦ elim (f k) [ inl q ↦ inl q | inr q ↦ inr (there _ _ q) ] ]

pub with_state_has : (s : ℕ) (xs : List ℕ) → Contains (with_state s xs) s
with_state_has s [] = here []
with_state_has s (x ∷ xs) = with_state_cases s x xs (λ ys. Contains ys s) (λ l. here (x ∷ xs)) (λ e. subst (λ (z : ℕ). Contains (x ∷ xs) z) (sym e) (here _)) (λ l. there _ _ (with_state_has s xs))

pub with_state_keeps : (s : ℕ) (xs : List ℕ) (t : ℕ) → Contains xs t → Contains (with_state s xs) t
with_state_keeps s [] t h = absurd (Contains-none _ h)
with_state_keeps s (x ∷ xs) t h = with_state_cases s x xs (λ ys. Contains ys t) (λ l. there s (x ∷ xs) h) (λ e. h) (λ l. back (with_state s xs) t (with_state_keeps s xs t) h)
  where
    back : (zs : List ℕ) (t : ℕ) → (Contains xs t → Contains zs t) → Contains (x ∷ xs) t → Contains (x ∷ zs) t
    back zs t f m = elim (first_or_later _ _ m) [ inl e ↦ rw e (here _) | inr k ↦ there _ _ (f k) ]

pub has_to : (xs : List ℕ) (s : ℕ) → has_state xs s ≡ true → Contains xs s
has_to [] s e = cc
has_to (x ∷ xs) s e = elim (bool_cases (x == s)) [
  | inl a ↦ subst (λ (z : ℕ). Contains (x ∷ xs) z) (same_at x s a) (here _)
  | inr a ↦ there _ _ (has_to xs s (rw a at e))
]

pub to_has : (xs : List ℕ) (s : ℕ) → Contains xs s → has_state xs s ≡ true
to_has [] s h = absurd (Contains-none _ h)
to_has (x ∷ xs) s h = elim (first_or_later _ _ h) [ inl e ↦ or_left (x == s) _ (eq-eqb x s (sym e)) | inr k ↦ or_right (x == s) _ (to_has xs s k) ]

-- ---- that it rises

-- the numbers rise, the first one above x
abbrev pub RisesFrom : ℕ → List ℕ → Type 0
RisesFrom x [] = Unit {0}
RisesFrom x (y ∷ ys) = (x < y) × RisesFrom y ys

abbrev pub Rises : List ℕ → Type 0
Rises [] = Unit {0}
Rises (x ∷ xs) = RisesFrom x xs

rises_to_index : (x : ℕ) (xs : List ℕ) → RisesFrom x xs → IsStrictlyIncreasing (x ∷ xs)
rises_to_index x [] h k l = absurd (omega arith)
rises_to_index x (y ∷ ys) h zero l = h.0
rises_to_index x (y ∷ ys) h (suc k) l = rw add-one (rw add-one at (rises_to_index y ys h.1 k (omega arith)))

index_to_rises : (x : ℕ) (xs : List ℕ) → IsStrictlyIncreasing (x ∷ xs) → RisesFrom x xs
index_to_rises x [] h = tt
index_to_rises x (y ∷ ys) h = (h 0 (omega arith), index_to_rises y ys (λ k l. rw add-one (rw add-one at (h (suc k) (omega arith)))))

pub rises_increasing : (xs : List ℕ) → Rises xs → IsStrictlyIncreasing xs
rises_increasing [] h = λ k l. absurd (omega arith)
rises_increasing (x ∷ xs) h = rises_to_index x xs h

pub increasing_rises : (xs : List ℕ) → IsStrictlyIncreasing xs → Rises xs
increasing_rises [] h = tt
increasing_rises (x ∷ xs) h = index_to_rises x xs h

with_state_from : (s z : ℕ) (xs : List ℕ) → z < s → RisesFrom z xs → RisesFrom z (with_state s xs)
with_state_from s z [] l h = (l, tt)
with_state_from s z (x ∷ xs) l h = with_state_cases s x xs (λ ys. RisesFrom z ys) (λ k. (l, (k, h.1))) (λ e. h) (λ k. (h.0, with_state_from s x xs k h.1))

pub with_state_rises : (s : ℕ) (xs : List ℕ) → Rises xs → Rises (with_state s xs)
with_state_rises s [] h = tt
with_state_rises s (x ∷ xs) h = with_state_cases s x xs (λ ys. Rises ys) (λ k. (k, h)) (λ e. h) (λ k. with_state_from s x xs k h)

pub with_state-IsStrictlyIncreasing : (s : ℕ) (xs : List ℕ) → IsStrictlyIncreasing xs → IsStrictlyIncreasing (with_state s xs)
with_state-IsStrictlyIncreasing s xs h = rises_increasing (with_state s xs) (with_state_rises s xs (increasing_rises xs h))

-- ---- two sets with the same states are one

pub above_all : (x : ℕ) (xs : List ℕ) → RisesFrom x xs → (t : ℕ) → Contains xs t → x < t
above_all x [] h t a = absurd (Contains-none _ a)
above_all x (y ∷ ys) h t a = each_of (λ z. x < z) _ _ a h.0 (λ b. let l = above_all y ys h.1 t b in let k = h.0 in omega arith)

tail_rises : (x : ℕ) (xs : List ℕ) → RisesFrom x xs → Rises xs
tail_rises x [] h = tt
tail_rises x (y ∷ ys) h = h.1

pub rises_same : (xs ys : List ℕ) → Rises xs → Rises ys → ((t : ℕ) → Contains xs t → Contains ys t) → ((t : ℕ) → Contains ys t → Contains xs t) → xs ≡ ys
rises_same [] [] p q to from = refl
rises_same [] (y ∷ ys) p q to from = absurd (Contains-none _ (from y (here _)))
rises_same (x ∷ xs) [] p q to from = absurd (Contains-none _ (to x (here _)))
rises_same (x ∷ xs) (y ∷ ys) p q to from =
    let e : x ≡ y = head x y xs ys p q (to x (here _)) (from y (here _)) in
    let rest : xs ≡ ys = rises_same xs ys (tail_rises x xs p) (tail_rises y ys q)
    (λ t a. later y ys t (let l = above_all x xs p t a in omega arith) (to t (there _ _ a)))
    (λ t a. later x xs t (let l = above_all y ys q t a in omega arith) (from t (there _ _ a))) in
    rw (e, rest) refl
  where
    later : (y : ℕ) (ys : List ℕ) (t : ℕ) → y < t → Contains (y ∷ ys) t → Contains ys t
    later y ys t l m = elim (first_or_later _ _ m) [ inl e ↦ absurd (omega arith) | inr a ↦ a ]

    head : (x y : ℕ) (xs ys : List ℕ) → RisesFrom x xs → RisesFrom y ys → Contains (y ∷ ys) x → Contains (x ∷ xs) y → x ≡ y
    head x y xs ys p q m n = elim (first_or_later _ _ m) [
      | inl e ↦ e
      | inr a ↦ elim (first_or_later _ _ n) [ inl e ↦ sym e | inr b ↦ (let l = above_all y ys q x a in let k = above_all x xs p y b in absurd (omega arith)) ]
    ]

-- ---- by a place

pub with_state-insert : (s : ℕ) (xs : List ℕ) (i : ℕ) → i ≤ length xs → AllWithin (λ y. nat_lt y s ≡ true) xs 0 i → AllWithin (λ y. nat_lt y s ≡ false) xs i (length xs) → (i < length xs → get_or xs i 0 ≢ s) → insert xs i s ≡ with_state s xs
with_state-insert s [] zero h below above other = refl
with_state-insert s [] (suc i) h below above other = absurd (omega arith)
with_state-insert s (x ∷ xs) zero h below above other =
    let ge = not_lt x s (above 0 0 (omega arith) (omega arith)) in
    let ne = other (omega arith) in
    with_state_cases s x xs (λ ys. s ∷ x ∷ xs ≡ ys) (λ l. refl) (λ e. absurd (ne (sym e))) (λ l. absurd (omega arith))
with_state-insert s (x ∷ xs) (suc i) h below above other =
    let lt = lt_test x s (below 0 0 (omega arith) (omega arith)) in
    let rest = with_state-insert s xs i (omega arith) (λ k d l u. below (suc k) d (omega arith) (omega arith)) (λ k d l u. above (suc k) d (omega arith) (omega arith)) (λ l. other (omega arith)) in
    with_state_cases s x xs (λ ys. x ∷ insert xs i s ≡ ys) (λ l. absurd (omega arith)) (λ e. absurd (omega arith)) (λ l. ap (λ ys. x ∷ ys) rest)

pub with_state-there : (s : ℕ) (xs : List ℕ) → Rises xs → (i : ℕ) → i < length xs → get_or xs i 0 ≡ s → with_state s xs ≡ xs
with_state-there s xs rises i l e = rises_same (with_state s xs) xs (with_state_rises s xs rises) rises (λ t a. elim (with_state_to s xs t a) [ inl q ↦ subst (λ (z : ℕ). Contains xs z) (e ∙ sym q) (Contains-get_or xs i 0 l) | inr b ↦ b ]) (λ t a. with_state_keeps s xs t a)

at_above : (x : ℕ) (xs : List ℕ) → RisesFrom x xs → (j d : ℕ) → j < length xs → x < slice_index_or xs j d
at_above x [] h j d l = absurd (omega arith)
at_above x (y ∷ ys) h zero d l = h.0
at_above x (y ∷ ys) h (suc j) d l = let k = at_above y ys h.1 j d (omega arith) in let m = h.0 in omega arith

-- the numbers below s stand first
pub rises_partitioned : (s : ℕ) (xs : List ℕ) → Rises xs → IsPartitionedBy (λ y. nat_lt y s) xs
rises_partitioned s [] h = λ i j d le l e. absurd (omega arith)
rises_partitioned s (x ∷ xs) h = λ i j d le l e. lt_holds _ s (let a = ordered x xs h i j d le l in let b = lt_test _ s e in omega arith)
  where
    ordered : (x : ℕ) (xs : List ℕ) → RisesFrom x xs → (i j d : ℕ) → i ≤ j → j < length (x ∷ xs) → slice_index_or (x ∷ xs) i d ≤ slice_index_or (x ∷ xs) j d
    ordered x xs h zero zero d le l = omega arith
    ordered x xs h zero (suc j) d le l = let k = at_above x xs h j d (omega arith) in omega arith
    ordered x xs h (suc i) zero d le l = absurd (omega arith)
    ordered x [] h (suc i) (suc j) d le l = absurd (omega arith)
    ordered x (y ∷ ys) h (suc i) (suc j) d le l = ordered y ys h.1 i j d (omega arith) (omega arith)
