-- What words ask for, one option after another; and the number that a text of digits writes.
use Rattle.std.proofs.Common.{◌≡◌, ◌∙◌, ℕ, ◌<◌, ◌≤◌, ◌^◌, true, Option, Some, Result, Ok, Err, List, length, sym, ap, rules}
use Rattle.std.specs.Char.{is_ascii_digit}
use Rattle.std.specs.List.{list_all}
use Rattle.std.specs.Result.{OkIff, result_ok}
use Rattle.std.specs.Str.Parse.{ParsesUnsigned, digits_value}
use Rattle.std.proofs.lemmas.Bool.{and_from, and_parts, cond-false, cond-true, false_from_ne_true, lt-ltb, le-leb, ltb-true}
use Rattle.std.proofs.lemmas.Str.Parse.{IsNumeralModel, numerals_by_value, parse_digits}
use Rattle.tm_run.specs.Values.{is_number, number_in}

digits : IsNumeralModel (λ ds. list_all is_ascii_digit ds ≡ true) (digits_value 10)
digits = numerals_by_value _ (search rules)

-- a text of digits that isn't too long is read as the number that it writes, where it writes one of so many bits
module _ {E : Type 0} (most bits : ℕ) (text : List ℕ) (parsed : Result ℕ E) (parses : ParsesUnsigned bits 10 text parsed) (few : length text ≤ most) (decimal : list_all is_ascii_digit text ≡ true) where
  is_number-so : 0 < length text → digits_value 10 text < 2 ^ bits → is_number most bits text ≡ true
  is_number-so some below = and_from _ _ (lt-ltb 0 (length text) some) (and_from _ _ (le-leb (length text) most few) (and_from _ _ decimal (lt-ltb _ _ below)))

  is_number-parts : is_number most bits text ≡ true → (0 < length text) × (digits_value 10 text < 2 ^ bits)
  is_number-parts e =
      let (some, rest) = and_parts _ _ e in
      let (short, others) = and_parts _ _ rest in
      let (all, below) = and_parts _ _ others in
      (ltb-true 0 (length text) some, ltb-true _ _ below)

  by_parsed : (number : Option ℕ) (r : Result ℕ E) → number ≡ result_ok r → OkIff r ((0 < length text) × (digits_value 10 text < 2 ^ bits)) (digits_value 10 text) → number ≡ number_in most bits text
  by_parsed number (Ok n) e ((some, below), same) = e ∙ ap Some same ∙ sym (cond-true (is_number most bits text) _ _ (is_number-so some below))
  by_parsed number (Err err) e none = e ∙ sym (cond-false (is_number most bits text) _ _ (false_from_ne_true (is_number most bits text) (λ h. none (is_number-parts h))))

  pub number-read : (number : Option ℕ) → number ≡ result_ok parsed → number ≡ number_in most bits text
  number-read number e = by_parsed number parsed e (parse_digits digits bits text parsed parses decimal)
