-- Whether a set is part of another, told by one pass over both.
use Rattle.std.proofs.Common.{◌≡◌, ℕ, ◌+◌, ◌<◌, ◌≤◌, inl, inr, Bool, true, false, if◌then◌else◌, List, [], ◌∷◌, length, drop, get_or, refl, sym, ◌∙◌, subst, arith, eq-eqb, Contains}
use Rattle.std.specs.Prelude.{◌==◌}
use Rattle.std.specs.List.{list_all}
use Rattle.std.proofs.lemmas.Bool.{and_from, cases_lt, ne_eqb}
use Rattle.std.proofs.lemmas.List.{drop_more, drop_all}
use Rattle.tm_base.proofs.JudgedLemmas.{Contains-none}
use Rattle.tm_auto.specs.Sets.{has_state}
use Rattle.tm_auto.proofs.ContainsLemmas.{here, there, each_of}
use Rattle.tm_auto.proofs.SetLemmas.{RisesFrom, Rises, bool_cases, same_at, has_to, to_has}
use Rattle.tm_auto.proofs.StepLemmas.{both_true}
use Rattle.tm_walk.specs.Obligations.{is_within}

-- each state of the first is one of the second
abbrev pub AreOf : List ℕ → List ℕ → Type 0
AreOf part whole = (s : ℕ) → Contains part s → Contains whole s

pub within_to : (part whole : List ℕ) → is_within part whole ≡ true → AreOf part whole
within_to [] whole e s m = absurd (Contains-none _ m)
within_to (x ∷ xs) whole e s m =
    let (has, rest) = both_true (has_state whole x) (list_all (has_state whole) xs) e in
    each_of (Contains whole) x xs m (has_to whole x has) (λ n. within_to xs whole rest s n)

pub to_within : (part whole : List ℕ) → AreOf part whole → is_within part whole ≡ true
to_within [] whole f = refl
to_within (x ∷ xs) whole f = and_from _ _ (to_has whole x (f x (here _))) (to_within xs whole (λ s m. f s (there _ _ m)))

-- ---- one pass

-- the first states are found one after another among the second
abbrev pub runs_in : List ℕ → List ℕ → Bool
runs_in [] ys = true
runs_in (x ∷ xs) [] = false
runs_in (x ∷ xs) (y ∷ ys) = if x == y then runs_in xs ys else runs_in (x ∷ xs) ys

rises_tail : (x : ℕ) (xs : List ℕ) → RisesFrom x xs → Rises xs
rises_tail x [] h = tt
rises_tail x (y ∷ ys) h = h.1

rises_lower : (x y : ℕ) (ys : List ℕ) → x < y → RisesFrom y ys → RisesFrom x ys
rises_lower x y [] l h = tt
rises_lower x y (z ∷ zs) l h = (let a = h.0 in omega arith, h.1)

-- what rises from a greater state hasn't this one
absent : (x y : ℕ) (ys : List ℕ) → x < y → RisesFrom y ys → has_state ys x ≡ false
absent x y [] l h = refl
absent x y (z ∷ zs) l h =
    let less : x < z = (let a = h.0 in omega arith) in
    rw (ne_eqb z x (λ q. omega arith)) (absent x z zs less h.1)

-- a lesser state makes no difference
skipped : (y : ℕ) (ys xs : List ℕ) → RisesFrom y xs → is_within xs (y ∷ ys) ≡ is_within xs ys
skipped y ys [] h = refl
skipped y ys (x ∷ xs) h =
    let less : y < x = h.0 in
    rw (ne_eqb y x (λ q. omega arith), skipped y ys xs (rises_lower y x xs less h.1)) refl

pub runs_within : (xs ys : List ℕ) → Rises xs → Rises ys → runs_in xs ys ≡ is_within xs ys
runs_within [] ys a b = refl
runs_within (x ∷ xs) [] a b = refl
runs_within (x ∷ xs) (y ∷ ys) a b = elim (bool_cases (x == y)) [
  | inl e ↦ (
      let same : x ≡ y = same_at x y e in
      let hit : (y == x) ≡ true = eq-eqb y x (sym same) in
      rw (e, hit, skipped y ys xs (subst (λ (z : ℕ). RisesFrom z xs) same a)) (runs_within xs ys (rises_tail x xs a) (rises_tail y ys b)))
  | inr e ↦ rw e (runs_within (x ∷ xs) ys a (rises_tail y ys b) ∙ missed e)
]
  where
    missed : (x == y) ≡ false → is_within (x ∷ xs) ys ≡ is_within (x ∷ xs) (y ∷ ys)
    missed e = elim (cases_lt x y) [
      | inl l ↦ rw (absent x y ys l b, ne_eqb y x (λ q. omega arith)) refl
      | inr l ↦ (
          let less : y < x = (elim (cases_lt y x) [ inl m ↦ m | inr m ↦ (let z = eq-eqb x y (omega arith) in cc) ]) in
          sym (skipped y ys (x ∷ xs) (less, a)))
    ]

-- one turn of the pass
pub runs_hit : (part whole : List ℕ) (found i c d : ℕ) → found < length part → i < length whole → get_or part found c ≡ get_or whole i d → runs_in (drop (found + 1) part) (drop (i + 1) whole) ≡ runs_in (drop found part) (drop i whole)
runs_hit part whole found i c d l m e = rw (drop_more part found c l, drop_more whole i d m, eq-eqb (get_or part found c) (get_or whole i d) e) refl

pub runs_miss : (part whole : List ℕ) (found i c d : ℕ) → found < length part → i < length whole → (get_or part found c ≡ get_or whole i d → ⊥) → runs_in (drop found part) (drop (i + 1) whole) ≡ runs_in (drop found part) (drop i whole)
runs_miss part whole found i c d l m n = rw (drop_more part found c l, drop_more whole i d m, ne_eqb (get_or part found c) (get_or whole i d) n) refl

pub runs_over : (part whole : List ℕ) (found i : ℕ) → length part ≤ found → runs_in (drop found part) (drop (i + 1) whole) ≡ runs_in (drop found part) (drop i whole)
runs_over part whole found i l = rw (drop_all found part l) refl

pub runs_end : (part whole : List ℕ) (found i : ℕ) → length whole ≤ i → found ≤ length part → (found == length part) ≡ runs_in (drop found part) (drop i whole)
runs_end part whole found i l m = elim (cases_lt found (length part)) [
  | inl less ↦ rw (drop_all i whole l, drop_more part found 0 less, ne_eqb found (length part) (λ q. omega arith)) refl
  | inr more ↦ rw (drop_all found part more, eq-eqb found (length part) (omega arith)) refl
]
