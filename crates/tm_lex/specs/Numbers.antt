-- Numbers. The Rust Reference, "Integer literals", without suffixes and below 2 ^ 128.
use Rattle.std.specs.Prelude.{◌≡◌, ◌==◌, ℕ, ◌+◌, ◌*◌, ◌^◌, Bool, true, ◌&&◌, ◌||◌, nat_lt, if◌then◌else◌, Option, Some, None, List, [], ◌∷◌, fold}
use Rattle.std.specs.Char.{digit_value, is_ascii_digit}
use Rattle.std.specs.List.{list_all, list_any}
use Rattle.tm_lex.specs.Characters.{IsRun}
use Rattle.tm_lex.specs.Words.{continues_word}

-- the character is an ASCII digit or letter that is a digit of the base, whatever its case
abbrev pub is_digit : ℕ → ℕ → Bool
is_digit base c = nat_lt (digit_value c) base

-- the value of some digits; `_`, which is 95, counts for nothing
abbrev pub value_in : ℕ → List ℕ → ℕ
value_in base text = fold (λ value c. if c == 95 then value else value * base + digit_value c) 0 text

-- the number that digits of the base and `_` spell, with at least one digit, and below 2 ^ 128
abbrev pub spelled_in : ℕ → List ℕ → Option ℕ
spelled_in base text =
    if (list_all (λ c. is_digit base c || c == 95) text && list_any (is_digit base) text)
    && nat_lt (value_in base text) (2 ^ 128)
    then Some (value_in base text) else None

-- the number of a text whose first character is `0`, by its second and what is behind that: `x`, `o`
-- and `b` name the bases 16, 8 and 2
abbrev pub number_behind_zero : ℕ → List ℕ → List ℕ → Option ℕ
number_behind_zero c digits text =
    if c == 120 then spelled_in 16 digits
    else if c == 111 then spelled_in 8 digits
    else if c == 98 then spelled_in 2 digits
    else spelled_in 10 text

-- the number that a run of characters spells, if it spells one
abbrev pub number_of : List ℕ → Option ℕ
number_of [] = None
number_of (c ∷ []) = spelled_in 10 (c ∷ [])
number_of (c ∷ d ∷ digits) =
    if c == 48 then number_behind_zero d digits (c ∷ d ∷ digits) else spelled_in 10 (c ∷ d ∷ digits)

-- a run of characters that continue words, the longest before the rest, which begins with a digit of ASCII
abbrev pub IsDigitRun : List ℕ → List ℕ → Type 0
IsDigitRun [] rest = ⊥
IsDigitRun (c ∷ more) rest = (is_ascii_digit c ≡ true) × IsRun continues_word (c ∷ more) rest
