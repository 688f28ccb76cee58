-- The number that digits spell, character by character.
use Rattle.std.proofs.Common.{◌≡◌, ◌==◌, ℕ, ◌+◌, ◌*◌, ◌^◌, ◌<◌, ◌≤◌, refl, sym, ap, ◌∙◌, subst, Bool, true, false, ◌&&◌, ◌||◌, if◌then◌else◌, Option, Some, None, List, [], ◌∷◌, lt-ltb, le-ltb, inl, inr, arith}
use Rattle.std.specs.Prelude.{nat_lt, fold}
use Rattle.std.specs.Char.{digit_value}
use Rattle.std.specs.List.{list_all, list_any}
use Rattle.std.proofs.lemmas.Bool.{ne_eqb, cases_Bool, and_right, ltb-true, ltb-false}
use Rattle.std.proofs.Math.Nat.{mul-le-mul_left}
use Rattle.unicode_ident.proofs.Computing.{unicode_ident}
use Rattle.tm_lex.specs.Characters.{run_of}
use Rattle.tm_lex.specs.Words.{continues_word}
use Rattle.tm_lex.specs.Numbers.{is_digit, spelled_in, number_of}

-- the value of digits that stand behind a value
abbrev pub value_behind : ℕ → ℕ → List ℕ → ℕ
value_behind base value text = fold (λ n c. if c == 95 then n else n * base + digit_value c) value text

-- and the number that they spell, where some digit may have stood before them
abbrev pub spelled_behind : ℕ → ℕ → Bool → List ℕ → Option ℕ
spelled_behind base value some text =
    if (list_all (λ c. is_digit base c || c == 95) text && (some || list_any (is_digit base) text))
    && nat_lt (value_behind base value text) (2 ^ 128)
    then Some (value_behind base value text) else None

-- what a value, a run of digits behind it, and whether a digit was there give
abbrev told : Bool → Bool → Bool → ℕ → Option ℕ
told all some small value = if (all && some) && small then Some value else None

pub run_in : (p : ℕ → Bool) (text rest : List ℕ) (c : ℕ) → text ≡ c ∷ rest → p c ≡ true → run_of p text ≡ c ∷ run_of p rest
run_in p text rest c e h = ap (run_of p) e ∙ ap (λ b. if b then c ∷ run_of p rest else []) h

pub run_out : (p : ℕ → Bool) (text rest : List ℕ) (c : ℕ) → text ≡ c ∷ rest → p c ≡ false → run_of p text ≡ []
run_out p text rest c e h = ap (run_of p) e ∙ ap (λ b. if b then c ∷ run_of p rest else []) h

underscore : (base value : ℕ) (some : Bool) (digits : List ℕ) → base ≤ 16
    → spelled_behind base value some (95 ∷ digits) ≡ spelled_behind base value some digits
underscore base value some digits most =
    let none : nat_lt 36 base ≡ false = le-ltb 36 base (omega arith) in
    ap (λ b. told ((b || true) && list_all (λ c. is_digit base c || c == 95) digits) (some || (b || list_any (is_digit base) digits))
    (nat_lt (value_behind base value digits) (2 ^ 128)) (value_behind base value digits)) none

some_true : (some more : Bool) → (some || true) ≡ (true || more)
some_true true more = refl
some_true false more = refl

digit : (base value c : ℕ) (some : Bool) (digits : List ℕ) → (c ≡ 95 → ⊥) → digit_value c < base
    → spelled_behind base value some (c ∷ digits) ≡ spelled_behind base (value * base + digit_value c) true digits
digit base value c some digits other small =
    let so : is_digit base c ≡ true = lt-ltb (digit_value c) base small in
    let not_so : (c == 95) ≡ false = ne_eqb c 95 other in
    ap (λ b. told ((b || (c == 95)) && list_all (λ c. is_digit base c || c == 95) digits) (some || (b || list_any (is_digit base) digits))
    (nat_lt (value_behind base (if c == 95 then value else value * base + digit_value c) digits) (2 ^ 128))
    (value_behind base (if c == 95 then value else value * base + digit_value c) digits)) so
    ∙ ap (λ b. told (list_all (λ c. is_digit base c || c == 95) digits) (some || true)
    (nat_lt (value_behind base (if b then value else value * base + digit_value c) digits) (2 ^ 128))
    (value_behind base (if b then value else value * base + digit_value c) digits)) not_so
    ∙ ap (λ b. told (list_all (λ c. is_digit base c || c == 95) digits) b
    (nat_lt (value_behind base (value * base + digit_value c) digits) (2 ^ 128))
    (value_behind base (value * base + digit_value c) digits)) (some_true some (list_any (is_digit base) digits))

-- a value never falls
value_grows : (base value : ℕ) (digits : List ℕ) → 1 ≤ base → value ≤ value_behind base value digits
value_grows base value [] least = omega arith
value_grows base value (c ∷ digits) least = elim (cases_Bool (c == 95)) [
  | inl t ↦ subst (λ b. value ≤ value_behind base (if b then value else value * base + digit_value c) digits) (sym t) (value_grows base value digits least)
  | inr t ↦ let more = value_grows base (value * base + digit_value c) digits least in
      let grown : value * 1 ≤ value * base = mul-le-mul_left value least in
      let enough : value ≤ value_behind base (value * base + digit_value c) digits = omega arith in
      subst (λ b. value ≤ value_behind base (if b then value else value * base + digit_value c) digits) (sym t) enough
]

too_large : (base value : ℕ) (some : Bool) (digits : List ℕ) → 1 ≤ base → 2 ^ 128 ≤ value → spelled_behind base value some digits ≡ None
too_large base value some digits least large =
    let grows = value_grows base value digits least in
    let all : Bool = list_all (λ c. is_digit base c || c == 95) digits && (some || list_any (is_digit base) digits) in
    let over : nat_lt (value_behind base value digits) (2 ^ 128) ≡ false = le-ltb _ _ (omega arith) in
    ap (λ b. if all && b then Some (value_behind base value digits) else None) over
    ∙ ap (λ b. if b then Some (value_behind base value digits) else None) (and_right all false refl)

no_digit : (base value c : ℕ) (some : Bool) (digits : List ℕ) → (c ≡ 95 → ⊥) → base ≤ digit_value c
    → spelled_behind base value some (c ∷ digits) ≡ None
no_digit base value c some digits other large =
    let not_so : is_digit base c ≡ false = le-ltb (digit_value c) base large in
    let nor : (c == 95) ≡ false = ne_eqb c 95 other in
    let some_more : Bool = some || list_any (is_digit base) (c ∷ digits) in
    let after : ℕ = value_behind base value (c ∷ digits) in
    ap (λ b. told ((b || (c == 95)) && list_all (λ c. is_digit base c || c == 95) digits) some_more (nat_lt after (2 ^ 128)) after) not_so
    ∙ ap (λ b. told (b && list_all (λ c. is_digit base c || c == 95) digits) some_more (nat_lt after (2 ^ 128)) after) nor

refused : (base value c : ℕ) (some : Bool) (digits : List ℕ) → 2 ≤ base → (c ≡ 95 → ⊥)
    → ((digit_value c < base) × (value * base + digit_value c < 2 ^ 128) → ⊥)
    → spelled_behind base value some (c ∷ digits) ≡ None
refused base value c some digits least other h = elim (cases_Bool (nat_lt (digit_value c) base)) [
  | inl t ↦ let small = ltb-true (digit_value c) base t in
      digit base value c some digits other small
      ∙ elim (cases_Bool (nat_lt (value * base + digit_value c) (2 ^ 128))) [
        | inl u ↦ absurd (h (small, ltb-true _ _ u))
        | inr u ↦ too_large base (value * base + digit_value c) true digits (omega arith) (ltb-false _ _ u)
      ]
  | inr t ↦ no_digit base value c some digits other (ltb-false (digit_value c) base t)
]

-- the run at the front of a text, one character on
pub past_underscore : (base value : ℕ) (some : Bool) (text rest : List ℕ) (c : ℕ) → base ≤ 16 → text ≡ c ∷ rest
    → continues_word c ≡ true → c ≡ 95
    → spelled_behind base value some (run_of continues_word text) ≡ spelled_behind base value some (run_of continues_word rest)
past_underscore base value some text rest c most e h u =
    ap (spelled_behind base value some) (run_in continues_word text rest c e h ∙ ap (λ d. d ∷ run_of continues_word rest) u)
    ∙ underscore base value some (run_of continues_word rest) most

pub past_digit : (base value : ℕ) (some : Bool) (text rest : List ℕ) (c : ℕ) → text ≡ c ∷ rest
    → continues_word c ≡ true → (c ≡ 95 → ⊥) → digit_value c < base
    → spelled_behind base value some (run_of continues_word text)
    ≡ spelled_behind base (value * base + digit_value c) true (run_of continues_word rest)
past_digit base value some text rest c e h u small =
    ap (spelled_behind base value some) (run_in continues_word text rest c e h)
    ∙ digit base value c some (run_of continues_word rest) u small

pub at_no_digit : (base value : ℕ) (some : Bool) (text rest : List ℕ) (c : ℕ) → 2 ≤ base → text ≡ c ∷ rest
    → continues_word c ≡ true → (c ≡ 95 → ⊥) → ((digit_value c < base) × (value * base + digit_value c < 2 ^ 128) → ⊥)
    → spelled_behind base value some (run_of continues_word text) ≡ None
at_no_digit base value some text rest c least e h u none =
    ap (spelled_behind base value some) (run_in continues_word text rest c e h)
    ∙ refused base value c some (run_of continues_word rest) least u none

at_last : (base value : ℕ) (some : Bool) → value < 2 ^ 128 → spelled_behind base value some [] ≡ (if some then Some value else None)
at_last base value true small = ap (λ b. if b then Some value else None) (lt-ltb value (2 ^ 128) small)
at_last base value false small = refl

pub at_stop : (base value : ℕ) (some : Bool) (text rest : List ℕ) (c : ℕ) → value < 2 ^ 128 → text ≡ c ∷ rest → continues_word c ≡ false
    → spelled_behind base value some (run_of continues_word text) ≡ (if some then Some value else None)
at_stop base value some text rest c small e h =
    ap (spelled_behind base value some) (run_out continues_word text rest c e h) ∙ at_last base value some small

pub at_end : (base value : ℕ) (some : Bool) (text : List ℕ) → value < 2 ^ 128 → text ≡ []
    → spelled_behind base value some (run_of continues_word text) ≡ (if some then Some value else None)
at_end base value some text small e =
    ap (λ t. spelled_behind base value some (run_of continues_word t)) e ∙ at_last base value some small

begins : (text rest digits : List ℕ) (c d x : ℕ) → text ≡ c ∷ rest → rest ≡ d ∷ digits → c ≡ 48 → d ≡ x → text ≡ 48 ∷ x ∷ digits
begins text rest digits c d x e f g h = e ∙ ap (λ t. c ∷ t) f ∙ ap (λ y. y ∷ d ∷ digits) g ∙ ap (λ y. 48 ∷ y ∷ digits) h

-- a base that stands behind a first `0`
pub hexadecimal : (text rest digits : List ℕ) (c d : ℕ) → text ≡ c ∷ rest → rest ≡ d ∷ digits → c ≡ 48 → d ≡ 120
    → number_of (run_of continues_word text) ≡ spelled_in 16 (run_of continues_word digits)
unfolding unicode_ident
hexadecimal text rest digits c d e f g h =
    ap (λ t. number_of (run_of continues_word t)) (begins text rest digits c d 120 e f g h)

pub octal : (text rest digits : List ℕ) (c d : ℕ) → text ≡ c ∷ rest → rest ≡ d ∷ digits → c ≡ 48 → d ≡ 111
    → number_of (run_of continues_word text) ≡ spelled_in 8 (run_of continues_word digits)
unfolding unicode_ident
octal text rest digits c d e f g h =
    ap (λ t. number_of (run_of continues_word t)) (begins text rest digits c d 111 e f g h)

pub binary : (text rest digits : List ℕ) (c d : ℕ) → text ≡ c ∷ rest → rest ≡ d ∷ digits → c ≡ 48 → d ≡ 98
    → number_of (run_of continues_word text) ≡ spelled_in 2 (run_of continues_word digits)
unfolding unicode_ident
binary text rest digits c d e f g h =
    ap (λ t. number_of (run_of continues_word t)) (begins text rest digits c d 98 e f g h)
