-- Sums and roundings that are cut off at the greatest `u32`, as they are reckoned.
use Rattle.std.proofs.Common.{◌≡◌, ℕ, zero, suc, ◌+◌, ◌-◌, ◌%◌, ◌^◌, ◌≤◌, ◌<◌, min, sym, ap, ◌∙◌, ◌⊎◌, inl, inr, ⊎_elim, List, [], ◌∷◌, Option, drop, length, get_or, arith}
use Rattle.std.proofs.Math.ListN.{drop_of_length-le}
use Rattle.std.proofs.Math.Seq.{drop-cons}
use Rattle.tm_base.specs.Layout.{Layout, round_up, place_at, end_of, greatest_align}
use Rattle.tm_layout.specs.declared.facts.Facts.{Facts}
use Rattle.tm_layout.specs.Capped.{capped}
use Rattle.tm_layout.specs.Reckoned.{end_at, layout_in, layouts_in}

below_or_past : (n : ℕ) → (capped n ≡ n) ⊎ (2 ^ 32 - 1 ≤ n)
below_or_past n = cases n (2 ^ 32 - 1) where
  cases : (n m : ℕ) → (min n m ≡ n) ⊎ (m ≤ n)
  cases n zero = inr (omega arith)
  cases zero (suc m) = inl (omega arith)
  cases (suc n) (suc m) = ⊎_elim (λ (e : min n m ≡ n). inl (omega arith)) (λ (h : m ≤ n). inr (omega arith)) (cases n m)

-- two numbers that are both past the greatest `u32` are cut off to the same
both-past : (n m : ℕ) → 2 ^ 32 - 1 ≤ n → 2 ^ 32 - 1 ≤ m → capped n ≡ capped m
both-past n m a b = omega arith

-- what grows from a number on is cut off to the same, where the number is cut off first
pub capped-first : (f : ℕ → ℕ) → ((n : ℕ) → n ≤ f n) → (n : ℕ) → capped (f (capped n)) ≡ capped (f n)
capped-first f grows n = ⊎_elim
    (λ (e : capped n ≡ n). ap (λ (k : ℕ). capped (f k)) e)
    (λ (h : 2 ^ 32 - 1 ≤ n). both-past (f (capped n)) (f n) (omega (arith, grows (capped n))) (omega (arith, grows n)))
    (below_or_past n)

pub end_of-above : (packed : Option ℕ) (at : ℕ) (ls : List Layout) → at ≤ end_of packed at ls
end_of-above packed at [] = omega arith
end_of-above packed at (l ∷ ls) = omega (arith, end_of-above packed (place_at packed at l + l.size) ls)

pub end_of-capped : (packed : Option ℕ) (ls : List Layout) (at : ℕ) → capped (end_of packed (capped at) ls) ≡ capped (end_of packed at ls)
end_of-capped packed ls = capped-first (λ at. end_of packed at ls) (λ at. end_of-above packed at ls)

pub round_up-capped : (a n : ℕ) → capped (round_up (capped n) a) ≡ capped (round_up n a)
round_up-capped a = capped-first (λ n. round_up n a) (λ n. above n ((a - n % a) % a)) where
  above : (n k : ℕ) → n ≤ n + k
  above n k = omega arith

pub greatest_align-some : (packed : Option ℕ) (ls : List Layout) → 1 ≤ greatest_align packed ls
greatest_align-some packed [] = omega arith
greatest_align-some packed (l ∷ ls) = omega (arith, greatest_align-some packed ls)

-- the fields from a place on are the field there and those behind it
pub from_place : {X : Type 0} (xs : List X) (i : ℕ) (d : X) → i < length xs → drop i xs ≡ get_or xs i d ∷ drop (i + 1) xs
from_place xs i d h = let e : suc i ≡ i + 1 = omega arith in drop-cons xs i d h ∙ ap (λ (k : ℕ). get_or xs i d ∷ drop k xs) e

pub end_of-next : (packed : Option ℕ) (fs : List Facts) (i at next : ℕ) (d : Facts) → i < length fs → next ≡ capped (end_at packed at (layout_in (get_or fs i d)))
    → capped (end_of packed next (layouts_in (drop (i + 1) fs))) ≡ capped (end_of packed at (layouts_in (drop i fs)))
end_of-next packed fs i at next d h e =
    ap (λ (n : ℕ). capped (end_of packed n (layouts_in (drop (i + 1) fs)))) e ∙ end_of-capped packed (layouts_in (drop (i + 1) fs)) (end_at packed at (layout_in (get_or fs i d)))
    ∙ ap (λ gs. capped (end_of packed at (layouts_in gs))) (sym (from_place fs i d h))

pub end_of-done : (packed : Option ℕ) (fs : List Facts) (i at : ℕ) → length fs ≤ i → at < 2 ^ 32 → capped (end_of packed at (layouts_in (drop i fs))) ≡ at
end_of-done packed fs i at h fits = ap (λ gs. capped (end_of packed at (layouts_in gs))) (drop_of_length-le fs h) ∙ small at fits where
  small : (n : ℕ) → n < 2 ^ 32 → capped n ≡ n
  small n h = omega arith
