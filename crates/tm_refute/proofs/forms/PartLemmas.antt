-- The parts of a word's text: each has a text of its own, without a space, an asterisk or the end of a line.
use Rattle.std.proofs.Common.{◌≡◌, ℕ, ◌+◌, ◌/◌, ◌%◌, ◌<◌, ◌≤◌, ◌^◌, ◌⊎◌, inl, inr, refl, ap, Bool, true, false, not, if◌then◌else◌, arith}
use Rattle.std.specs.Prelude.{nat_lt, nat_le}
use Rattle.std.specs.List.{list_all}
use Rattle.std.specs.Fmt.{decimal, digit_glyph}
use Rattle.std.proofs.lemmas.Bool.{and_parts, and_from, cases_lt, leb-true, lt-ltb, ne_eqb}
use Rattle.std.proofs.lemmas.Bool.Decides.{nat_tests}
use Rattle.std.proofs.lemmas.Fmt.{decimal_injective}
pub use Rattle.tm_refute.specs.Taken.{but}
use Rattle.tm_refute.specs.WordForms.{Part, byte, uninit, reference, IsPart, part_text}
use Rattle.tm_refute.proofs.forms.TextLemmas.{decimal-digits, is_digit, list_all-weaker}

but-is : (c x : ℕ) → (x ≡ c → ⊥) → but c x ≡ true
but-is c x ne = ap not (ne_eqb x c ne)

-- digits are none of the bytes before them
digit-other : (c : ℕ) → c < 48 → (x : ℕ) → is_digit x ≡ true → but c x ≡ true
digit-other c low x h =
    let above = leb-true 48 x (and_parts (nat_le 48 x) (nat_le x 57) h).0 in
    but-is c x (λ e. absurd (omega arith))

pub decimal-other : (c n : ℕ) → c < 48 → n < 2 ^ 64 → list_all (but c) (decimal n) ≡ true
decimal-other c n low small = list_all-weaker is_digit (but c) (digit-other c low) (decimal n) (decimal-digits n small)

-- ---- digits of base 16

glyph-is : (d : ℕ) → ((d < 10) × (digit_glyph false d ≡ 48 + d)) ⊎ ((10 ≤ d) × (digit_glyph false d ≡ 87 + d))
glyph-is d = go (cases_lt d 10) where
  go : (d < 10) ⊎ (10 ≤ d) → ((d < 10) × (digit_glyph false d ≡ 48 + d)) ⊎ ((10 ≤ d) × (digit_glyph false d ≡ 87 + d))
  go (inl less) = inl (less, ap (λ (b : Bool). if b then 48 + d else 87 + d) (lt-ltb d 10 less))
  go (inr above) = let test : nat_lt d 10 ≡ false = grind (arith, nat_tests) in inr (above, ap (λ (b : Bool). if b then 48 + d else 87 + d) test)

glyph-above : (d : ℕ) → 48 ≤ digit_glyph false d
glyph-above d = go (glyph-is d) where
  go : ((d < 10) × (digit_glyph false d ≡ 48 + d)) ⊎ ((10 ≤ d) × (digit_glyph false d ≡ 87 + d)) → 48 ≤ digit_glyph false d
  go (inl (less, e)) = omega (arith, e)
  go (inr (above, e)) = omega (arith, e)

glyph-apart : (d k : ℕ) → digit_glyph false d ≡ digit_glyph false k → d ≡ k
glyph-apart d k same = go (glyph-is d) (glyph-is k) where
  go : ((d < 10) × (digit_glyph false d ≡ 48 + d)) ⊎ ((10 ≤ d) × (digit_glyph false d ≡ 87 + d)) → ((k < 10) × (digit_glyph false k ≡ 48 + k)) ⊎ ((10 ≤ k) × (digit_glyph false k ≡ 87 + k)) → d ≡ k
  go (inl (less, e)) (inl (lower, f)) = omega (arith, e, f, same)
  go (inl (less, e)) (inr (upper, f)) = omega (arith, e, f, same)
  go (inr (above, e)) (inl (lower, f)) = omega (arith, e, f, same)
  go (inr (above, e)) (inr (upper, f)) = omega (arith, e, f, same)

glyph-other : (c d : ℕ) → c < 48 → but c (digit_glyph false d) ≡ true
glyph-other c d low = let above = glyph-above d in but-is c (digit_glyph false d) (λ e. absurd (omega arith))

-- ---- parts

-- a part has no byte that is before digits, but the two with which a part begins
pub part-other : (c : ℕ) → c < 48 → but c 38 ≡ true → but c 45 ≡ true → (p : Part) → IsPart p → list_all (but c) (part_text p) ≡ true
part-other c low amp dash (byte b) is = and_from _ _ (glyph-other c (b / 16) low) (and_from _ _ (glyph-other c (b % 16) low) refl)
part-other c low amp dash uninit is = and_from _ _ dash (and_from _ _ dash refl)
part-other c low amp dash (reference k) is = and_from _ _ amp (decimal-other c k low (omega arith))

pub part-apart : (p q : Part) → IsPart p → IsPart q → part_text p ≡ part_text q → p ≡ q
part-apart (byte b) (byte d) small little e =
    let high : digit_glyph false (b / 16) ≡ digit_glyph false (d / 16) = cc in
    let low : digit_glyph false (b % 16) ≡ digit_glyph false (d % 16) = cc in
    let first = glyph-apart (b / 16) (d / 16) high in
    let second = glyph-apart (b % 16) (d % 16) low in
    let same : b ≡ d = omega arith in
    ap byte same
part-apart (byte b) uninit small little e =
    let high : digit_glyph false (b / 16) ≡ 45 = cc in
    let above = glyph-above (b / 16) in absurd (omega arith)
part-apart (byte b) (reference k) small little e =
    let high : digit_glyph false (b / 16) ≡ 38 = cc in
    let above = glyph-above (b / 16) in absurd (omega arith)
part-apart uninit (byte d) small little e =
    let high : digit_glyph false (d / 16) ≡ 45 = cc in
    let above = glyph-above (d / 16) in absurd (omega arith)
part-apart uninit uninit small little e = refl
part-apart uninit (reference k) small little e = cc
part-apart (reference k) (byte d) small little e =
    let high : digit_glyph false (d / 16) ≡ 38 = cc in
    let above = glyph-above (d / 16) in absurd (omega arith)
part-apart (reference k) uninit small little e = cc
part-apart (reference k) (reference j) small little e =
    let digits : decimal k ≡ decimal j = cc in
    ap reference (decimal_injective k j (omega arith) (omega arith) digits)
