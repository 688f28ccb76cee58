-- Numbers at the front of bytes: taken digit by digit, with no digit left behind.
use Rattle.std.proofs.Common.{◌≡◌, ℕ, ◌+◌, ◌*◌, ◌/◌, ◌%◌, ◌<◌, ◌≤◌, ◌^◌, zero, suc, refl, sym, ◌∙◌, ap, subst, Bool, ◌==◌, true, false, List, [], ◌∷◌, ◌++◌, length, arith, append_assoc, append-nil, get_or, take, drop, take-append-drop, Option, Some, None, nat_eq}
use Rattle.std.specs.Cmp.Lexicographic.{pointwise}
use Rattle.std.specs.List.{list_all}
use Rattle.std.specs.Fmt.{decimal}
use Rattle.std.specs.Str.Parse.{digits_value, digits_value_after}
use Rattle.std.specs.Char.{digit_value}
use Rattle.std.proofs.lemmas.Bool.{and_parts, both_ways}
use Rattle.std.proofs.lemmas.Fmt.{decimal_digit, decimal_is_IsNumeral, decimal_nonempty, decimal_step, first_decimal}
use Rattle.std.proofs.Math.Seq.{take-append_seam, drop-append_seam}
use Rattle.std.proofs.lemmas.Bool.Decides.{Decides-eqb}
use Rattle.std.proofs.lemmas.Slice.Eq.{slice_eq-Decides}
use Rattle.tm_refute.specs.Taken.{IsNumber, IsNumbered, Stops, Takes, is_digit, IsWholeNumber}
use Rattle.tm_refute.proofs.forms.TextLemmas.{cut, decimal-digits, digit-is}

-- what was taken of a number's digits, and those left
abbrev pub Left : List ℕ → List ℕ → List ℕ → List ℕ → Type 0
Left a b s r = (ds : List ℕ) × (b ≡ a ++ ds) × (s ≡ ds ++ r)

left : (a b s r : List ℕ) → list_all is_digit a ≡ true → Stops is_digit r → a ++ s ≡ b ++ r → Left a b s r
left [] b s r all stop e = (b, refl, e)
left (x ∷ a) [] s [] all stop e = cc
left (x ∷ a) [] s (y ∷ r) all stop e =
    let same : x ≡ y = cc in
    absurd (both_ways (is_digit x) (ap is_digit same ∙ stop) (and_parts (is_digit x) (list_all is_digit a) all).0)
left (x ∷ a) (y ∷ b) s r all stop e =
    let same : x ≡ y = cc in
    let others : a ++ s ≡ b ++ r = cc in
    let (ds, front, back) = left a b s r (and_parts (is_digit x) (list_all is_digit a) all).1 stop others in
    (ds, cc, back)

-- digits behind others don't make a number less
not-less : (n : ℕ) (ds : List ℕ) → n ≤ digits_value_after 10 n ds
not-less n [] = omega arith
not-less n (c ∷ cs) = omega (arith, not-less (n * 10 + digit_value c) cs)

after-append : (n : ℕ) (xs ys : List ℕ) → digits_value_after 10 n (xs ++ ys) ≡ digits_value_after 10 (digits_value_after 10 n xs) ys
after-append n [] ys = refl
after-append n (c ∷ cs) ys = after-append (n * 10 + digit_value c) cs ys

module _ (v m : ℕ) (s r : List ℕ) (big : v < 2 ^ 64) (small : m < 2 ^ 64) (stop : Stops is_digit r) (e : decimal v ++ s ≡ decimal m ++ r) where
  parts : Left (decimal v) (decimal m) s r
  parts = left (decimal v) (decimal m) s r (decimal-digits v big) stop e

  -- a number whose first digits were taken isn't less than what they say
  pub taken-le : v ≤ m
  taken-le =
      let (ds, front, back) = parts in
      let value : m ≡ digits_value_after 10 v ds = sym (decimal_is_IsNumeral m small).1 ∙ ap (digits_value 10) front ∙ after-append 0 (decimal v) ds ∙ ap (λ (n : ℕ). digits_value_after 10 n ds) (decimal_is_IsNumeral v big).1 in
      omega (arith, value, not-less v ds)

pub at-least : (n m : ℕ) → (n < m → ⊥) → m ≤ n
at-least n m h = grind arith

pub not-zero : (n : ℕ) → (n ≡ 0 → ⊥) → 0 < n
not-zero zero h = absurd (h refl)
not-zero (suc n) h = omega arith

-- where no digit comes, there is no number
pub no-digit : (before : List ℕ) → Stops is_digit before → (n : ℕ) (rest : List ℕ) → IsNumber before n rest → ⊥
no-digit before stop n rest is = go (decimal n) refl before refl where
  go : (ds : List ℕ) → decimal n ≡ ds → (xs : List ℕ) → before ≡ xs → ⊥
  go [] e xs f = let small = is.small in omega (arith, decimal_nonempty n (omega arith), ap (length {A = ℕ}) e)
  go (d ∷ ds) e [] f =
      let never : [] ≡ d ∷ (ds ++ rest) = sym f ∙ is.text_is ∙ ap (λ (xs : List ℕ). xs ++ rest) e in cc
  go (d ∷ ds) e (x ∷ xs) f =
      let small = is.small in
      let same : x ∷ xs ≡ d ∷ (ds ++ rest) = sym f ∙ is.text_is ∙ ap (λ (xs : List ℕ). xs ++ rest) e in
      let first : x ≡ d = cc in
      let digits : list_all is_digit (d ∷ ds) ≡ true = ap (list_all is_digit) (sym e) ∙ decimal-digits n (omega arith) in
      both_ways (is_digit d) (ap is_digit (sym first) ∙ subst (Stops is_digit) f stop) (and_parts (is_digit d) (list_all is_digit ds) digits).0

-- one digit more
pub one-more : (v d : ℕ) (before rest after : List ℕ) → 0 < v → v < 2 ^ 32 → d < 10 → before ≡ decimal v ++ rest → rest ≡ (48 + d) ∷ after → before ≡ decimal (v * 10 + d) ++ after
one-more v d before rest after some small digit e f =
    let n : ℕ = v * 10 + d in
    let front : n / 10 ≡ v = omega arith in
    let end : n % 10 ≡ d = omega arith in
    let step : decimal n ≡ decimal v ++ ((48 + d) ∷ []) = decimal_step n (omega arith) (omega arith) ∙ ap (λ (k : ℕ). decimal k ++ ((48 + n % 10) ∷ [])) front ∙ ap (λ (k : ℕ). decimal v ++ ((48 + k) ∷ [])) end in
    e ∙ ap (λ (xs : List ℕ). decimal v ++ xs) f ∙ sym (append_assoc (decimal v) ((48 + d) ∷ []) after) ∙ ap (λ (xs : List ℕ). xs ++ after) (sym step)

pub first-one : (d : ℕ) (before after : List ℕ) → d < 10 → before ≡ (48 + d) ∷ after → before ≡ decimal d ++ after
first-one d before after digit e = e ∙ ap (λ (xs : List ℕ). xs ++ after) (sym (decimal_digit d digit))

-- digits of too large a number
pub too-large : (v : ℕ) (before after : List ℕ) → 2 ^ 32 ≤ v → v < 2 ^ 64 → before ≡ decimal v ++ after → (n : ℕ) (rest : List ℕ) → IsNumber before n rest → ⊥
too-large v before after large fits e n rest is =
    let small = is.small in
    let less = taken-le v n after rest fits (omega arith) is.stops (sym e ∙ is.text_is) in
    omega arith

-- a digit behind a leading zero
pub leading-zero : (v d : ℕ) (before rest after : List ℕ) → v ≡ 0 → d < 10 → before ≡ decimal v ++ rest → rest ≡ (48 + d) ∷ after → (n : ℕ) (other : List ℕ) → IsNumber before n other → ⊥
leading-zero v d before rest after none digit e f n other is = go n refl where
  small : n < 2 ^ 32
  small = is.small

  text : before ≡ 48 ∷ ((48 + d) ∷ after)
  text = e ∙ ap (λ (k : ℕ). decimal k ++ rest) none ∙ ap (λ (xs : List ℕ). decimal 0 ++ xs) f ∙ ap (λ (xs : List ℕ). xs ++ ((48 + d) ∷ after)) (decimal_digit 0 (omega arith))

  go : (m : ℕ) → n ≡ m → ⊥
  go zero k =
      let same : 48 ∷ ((48 + d) ∷ after) ≡ 48 ∷ other = sym text ∙ is.text_is ∙ ap (λ (j : ℕ). decimal j ++ other) k ∙ ap (λ (xs : List ℕ). xs ++ other) (decimal_digit 0 (omega arith)) in
      let left_is : (48 + d) ∷ after ≡ other = cc in
      both_ways (is_digit (48 + d)) (subst (Stops is_digit) (sym left_is) is.stops) (digit-is d digit)
  go (suc m) k = starts (decimal n) refl (first_decimal n (omega arith) (omega arith)) where
    starts : (ds : List ℕ) → decimal n ≡ ds → 48 < get_or ds 0 0 → ⊥
    starts [] same above = omega (arith, above)
    starts (c ∷ ds) same above =
        let bytes : 48 ∷ ((48 + d) ∷ after) ≡ c ∷ (ds ++ other) = sym text ∙ is.text_is ∙ ap (λ (xs : List ℕ). xs ++ other) same in
        let first : 48 ≡ c = cc in
        omega (arith, above)

-- ---- texts

pub text-is : (text before rest : List ℕ) → pointwise nat_eq (take (length text) before) text ≡ true → rest ≡ drop (length text) before → before ≡ text ++ rest
text-is text before rest e is =
    let front : take (length text) before ≡ text = (slice_eq-Decides Decides-eqb (take (length text) before) text true (sym e)).0 refl in
    sym (take-append-drop (length text) before) ∙ ap (λ (xs : List ℕ). xs ++ drop (length text) before) front ∙ ap (λ (xs : List ℕ). text ++ xs) (sym is)

pub text-not : (text before : List ℕ) → pointwise nat_eq (take (length text) before) text ≡ false → (rest : List ℕ) → before ≡ text ++ rest → ⊥
text-not text before e rest is =
    let front : take (length text) before ≡ text = ap (take (length text)) is ∙ take-append_seam text rest in
    let never : false ≡ true = (slice_eq-Decides Decides-eqb (take (length text) before) text false (sym e)).1 front in cc

-- what is behind a text is known
pub behind-is : (text before a b : List ℕ) → before ≡ text ++ a → before ≡ text ++ b → a ≡ b
behind-is text before a b e f = sym (drop-append_seam text a) ∙ ap (drop (length text)) (sym e ∙ f) ∙ drop-append_seam text b

pub number-behind : (text before behind after : List ℕ) (n : Option ℕ) → before ≡ text ++ behind → Takes IsNumber behind after n → Takes (IsNumbered text) before after n
number-behind text before behind after (Some n) e is = record { behind = behind; text_is = e; number = is }
number-behind text before behind after None e none =
    λ (n : ℕ) (rest : List ℕ) (is : IsNumbered text before n rest). none n rest (subst (λ (xs : List ℕ). IsNumber xs n rest) (behind-is text before is.behind behind is.text_is e) is.number)

-- ---- whole numbers

pub none-whole : (text : List ℕ) → ((n : ℕ) (rest : List ℕ) → IsNumber text n rest → ⊥) → (n : ℕ) → IsWholeNumber n text → ⊥
none-whole text none n (small, e) = none n [] (record { small = small; text_is = e ∙ sym (append-nil (decimal n)); stops = tt })

pub more-behind : (text : List ℕ) (n : ℕ) (rest : List ℕ) → IsNumber text n rest → (rest ≡ [] → ⊥) → (m : ℕ) → IsWholeNumber m text → ⊥
more-behind text n rest is more m (small, e) =
    let fits = is.small in
    more (cut is_digit (decimal n) (decimal m) rest [] (decimal-digits n (omega arith)) (decimal-digits m (omega arith)) is.stops tt (sym is.text_is ∙ e ∙ sym (append-nil (decimal m)))).1

pub not-empty : (xs : List ℕ) (empty : Bool) → empty ≡ false → empty ≡ (length xs == 0) → xs ≡ [] → ⊥
not-empty xs empty never_so is e =
    let never : false ≡ true = sym never_so ∙ is ∙ ap (λ (ys : List ℕ). length ys == 0) e in cc
