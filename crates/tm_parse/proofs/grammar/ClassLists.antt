-- Lists of classes: what is in one, in both, or in neither.
use Rattle.std.proofs.Common.{◌≡◌, ◌==◌, refl, sym, ap, subst, Bool, true, false, not, ◌||◌, List, [], ◌∷◌, ◌++◌, ◌⊎◌, inl, inr, ne_eqb}
use Rattle.std.proofs.lemmas.Bool.{cases_eq, and_parts}
use Rattle.tm_parse.specs.Classes.{code, alike, among, apart}
use Rattle.tm_parse.specs.declared.class.Class.{Class}

pub among-left : (xs ys : List Class) (k : Class) → among xs k ≡ true → among (xs ++ ys) k ≡ true
among-left [] ys k h = absurd cc
among-left (x ∷ xs) ys k h = step (alike x k) h (among-left xs ys k)
  where
    step : (b : Bool) → (b || among xs k) ≡ true → (among xs k ≡ true → among (xs ++ ys) k ≡ true) → (b || among (xs ++ ys) k) ≡ true
    step true h rest = refl
    step false h rest = rest h

pub among-right : (xs ys : List Class) (k : Class) → among ys k ≡ true → among (xs ++ ys) k ≡ true
among-right [] ys k h = h
among-right (x ∷ xs) ys k h = step (alike x k) (among-right xs ys k h)
  where
    step : (b : Bool) → among (xs ++ ys) k ≡ true → (b || among (xs ++ ys) k) ≡ true
    step true h = refl
    step false h = h

pub among-either : (xs ys : List Class) (k : Class) → among (xs ++ ys) k ≡ true → (among xs k ≡ true) ⊎ (among ys k ≡ true)
among-either [] ys k h = inr h
among-either (x ∷ xs) ys k h = step (alike x k) h (among-either xs ys k)
  where
    step : (b : Bool) → (b || among (xs ++ ys) k) ≡ true → (among (xs ++ ys) k ≡ true → (among xs k ≡ true) ⊎ (among ys k ≡ true)) → ((b || among xs k) ≡ true) ⊎ (among ys k ≡ true)
    step true h rest = inl refl
    step false h rest = rest h

pub among-neither : (xs ys : List Class) (k : Class) → among (xs ++ ys) k ≡ false → (among xs k ≡ false) × (among ys k ≡ false)
among-neither [] ys k h = (refl, h)
among-neither (x ∷ xs) ys k h = step (alike x k) h (among-neither xs ys k)
  where
    step : (b : Bool) → (b || among (xs ++ ys) k) ≡ false → (among (xs ++ ys) k ≡ false → (among xs k ≡ false) × (among ys k ≡ false)) → ((b || among xs k) ≡ false) × (among ys k ≡ false)
    step true h rest = absurd cc
    step false h rest = rest h

-- alike classes are in the same lists
pub among-alike : (ys : List Class) (x k : Class) → code x ≡ code k → among ys k ≡ true → among ys x ≡ true
among-alike [] x k e h = h
among-alike (y ∷ ys) x k e h = step (alike y k) (alike y x) (ap (λ n. code y == n) (sym e)) h (among-alike ys x k e)
  where
    step : (b d : Bool) → b ≡ d → (b || among ys k) ≡ true → (among ys k ≡ true → among ys x ≡ true) → (d || among ys x) ≡ true
    step b true e h rest = refl
    step true false e h rest = absurd cc
    step false false e h rest = rest h

-- what is in the second of two lists that are apart isn't in the first
pub among-apart : (xs ys : List Class) (k : Class) → apart xs ys ≡ true → among ys k ≡ true → among xs k ≡ false
among-apart [] ys k h g = refl
among-apart (x ∷ xs) ys k h g = let both = and_parts (not (among ys x)) (apart xs ys) h in step (cases_eq (code x) (code k)) both.0 (among-apart xs ys k both.1 g)
  where
    step : (code x ≡ code k) ⊎ (code x ≡ code k → ⊥) → not (among ys x) ≡ true → among xs k ≡ false → (alike x k || among xs k) ≡ false
    step (inl e) n rest = absurd (let a : not true ≡ true = subst (λ b. not b ≡ true) (among-alike ys x k e g) n in cc)
    step (inr e) n rest = subst (λ b. (b || among xs k) ≡ false) (sym (ne_eqb (code x) (code k) e)) rest
