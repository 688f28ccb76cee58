-- Texts that are cut at the first byte of a kind, and what digits are.
use Rattle.std.proofs.Common.{◌≡◌, ℕ, ◌+◌, ◌%◌, ◌<◌, ◌≤◌, ◌^◌, refl, sym, ◌∙◌, ap, Bool, true, List, [], ◌∷◌, ◌++◌, arith}
use Rattle.std.specs.List.{list_all}
use Rattle.std.specs.Fmt.{decimal}
use Rattle.std.proofs.lemmas.Bool.{and_parts, and_from, both_ways, le-leb}
use Rattle.std.proofs.lemmas.Fmt.{decimal_by_steps}
use Rattle.std.proofs.lemmas.List.Folds.{list_all-append}
pub use Rattle.tm_refute.specs.Taken.{Stops, is_digit}

-- where all of a front passes and what follows doesn't, it is known where the front ends
pub cut : (p : ℕ → Bool) (a b r s : List ℕ) → list_all p a ≡ true → list_all p b ≡ true → Stops p r → Stops p s → a ++ r ≡ b ++ s → (a ≡ b) × (r ≡ s)
cut p [] [] r s all_a all_b stop_r stop_s e = (refl, e)
cut p [] (y ∷ b) [] s all_a all_b stop_r stop_s e = cc
cut p [] (y ∷ b) (x ∷ r) s all_a all_b stop_r stop_s e =
    let same : x ≡ y = cc in
    absurd (both_ways (p y) (ap p (sym same) ∙ stop_r) (and_parts (p y) (list_all p b) all_b).0)
cut p (x ∷ a) [] r [] all_a all_b stop_r stop_s e = cc
cut p (x ∷ a) [] r (y ∷ s) all_a all_b stop_r stop_s e =
    let same : x ≡ y = cc in
    absurd (both_ways (p x) (ap p same ∙ stop_s) (and_parts (p x) (list_all p a) all_a).0)
cut p (x ∷ a) (y ∷ b) r s all_a all_b stop_r stop_s e =
    let first : x ≡ y = cc in
    let others : a ++ r ≡ b ++ s = cc in
    let (front, back) = cut p a b r s (and_parts (p x) (list_all p a) all_a).1 (and_parts (p y) (list_all p b) all_b).1 stop_r stop_s others in
    (cc, back)

pub digit-is : (d : ℕ) → d < 10 → is_digit (48 + d) ≡ true
digit-is d h = and_from _ _ (le-leb 48 (48 + d) (omega arith)) (le-leb (48 + d) 57 (omega arith))

pub decimal-digits : (n : ℕ) → n < 2 ^ 64 → list_all is_digit (decimal n) ≡ true
decimal-digits n small = decimal_by_steps (λ m ds. list_all is_digit ds ≡ true) one more n small where
  one : (m : ℕ) → m < 10 → list_all is_digit ((48 + m) ∷ []) ≡ true
  one m h = and_from _ _ (digit-is m h) refl

  more : (m : ℕ) (ds : List ℕ) → 10 ≤ m → list_all is_digit ds ≡ true → list_all is_digit (ds ++ ((48 + m % 10) ∷ [])) ≡ true
  more m ds big all = list_all-append is_digit ds ((48 + m % 10) ∷ []) ∙ and_from _ _ all (and_from _ _ (digit-is (m % 10) (omega arith)) refl)

-- what passes a stricter test passes a weaker one
pub list_all-weaker : (p q : ℕ → Bool) → ((x : ℕ) → p x ≡ true → q x ≡ true) → (xs : List ℕ) → list_all p xs ≡ true → list_all q xs ≡ true
list_all-weaker p q over [] h = refl
list_all-weaker p q over (x ∷ xs) h =
    let (first, others) = and_parts (p x) (list_all p xs) h in
    and_from (q x) (list_all q xs) (over x first) (list_all-weaker p q over xs others)
